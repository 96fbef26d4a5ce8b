-- A call that passes is the first; one that fails is passed over.
use Rattle.cif_views.proofs.Names.{Bool, None, Option, Some, ap, at_drop_all, drop, find, if◌then◌else◌, refl, sym, ◌+◌, ◌∙◌}
use Rattle.std.proofs.lemmas.List.{at_drop_more}
use Rattle.cif_views.specs.Steps.Boards.{is_goal}
use Rattle.cif_views.specs.declared.public_stop.PublicStop.{PublicStop}
use Rattle.cif_views.proofs.boards.first_goal.Goals as goal

pub loop-stop-init : goal.loop-stop-init
loop-stop-init c = refl

pub returns-then-is_goal : goal.returns-then-is_goal
returns-then-is_goal c =
    let stop = c.stop-item.result in
    let i = c.loop-stop.stop-index in
    let rest = find (is_goal c.args.goal.now) (drop (i + 1) c.args.later.now) in
    sym (ap (λ (b : Bool). if b then Some stop else rest) (sym c.is_goal.ensures ∙ c.if-is_goal.true))
    ∙ ap (λ (s : PublicStop). if (is_goal c.args.goal.now) s then Some s else rest) c.stop-item.is
    ∙ sym (at_drop_more (find (is_goal c.args.goal.now)) c.args.later.now i stop c.loop-stop-test.true)
    ∙ c.loop-stop.invariant

pub loop-stop-preserved : goal.loop-stop-preserved
loop-stop-preserved c =
    let stop = c.stop-item.result in
    let i = c.loop-stop.stop-index in
    let rest = find (is_goal c.args.goal.now) (drop (i + 1) c.args.later.now) in
    sym (ap (λ (b : Bool). if b then Some stop else rest) (sym c.is_goal.ensures ∙ c.if-is_goal.false))
    ∙ ap (λ (s : PublicStop). if (is_goal c.args.goal.now) s then Some s else rest) c.stop-item.is
    ∙ sym (at_drop_more (find (is_goal c.args.goal.now)) c.args.later.now i stop c.loop-stop-test.true)
    ∙ c.loop-stop.invariant

pub returns : goal.returns
returns c = sym (at_drop_all (find (is_goal c.args.goal.now)) c.args.later.now c.loop-stop.stop-index c.loop-stop-test.false) ∙ c.loop-stop.invariant
