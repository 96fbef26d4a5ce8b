-- One change more: what is there after it (`says-after`), and whether it is refused (`refusals-more`).
use Rattle.cif_feed.proofs.Names.{Bool, Option, RefusedLine, SaysThere, Some, [], after_all, ap, append-nil, at_keys, changes_of, cond}
use Rattle.cif_feed.proofs.Names.{eq_by_cmp, eq_by_cmp_equiv, false, get, is_some, is_there, on_equiv, refusal, refusals, same_by, subst}
use Rattle.cif_feed.proofs.Names.{sym, take, take_all, unwrap_or, why_unfit, ◌++◌, ◌+◌, ◌∙◌, ◌∷◌, ◌≡◌}
use Rattle.cif_feed.{proofs.ChangeLaws.after_all-append, proofs.changes.refused_changes.Goals.else-not-may_be_applied}
use Rattle.cif_feed.{proofs.changes.refused_changes.Goals.then-not-may_be_applied+in_ok-push, specs.Changes.parts_of}
use Rattle.cif_feed.proofs.ChangeSteps.{change-changed, changes-more, refusals-more, says-after}
use Rattle.cif_feed.proofs.changes.refused_changes.Goals as goal

pub loop-change-preserved : goal.loop-change-preserved
loop-change-preserved g c = λ records start.
    let cmp = g.R.Rank.Ord.cmp in
    let rank = g.R.Keyed.rank in
    let same = same_by cmp rank in
    let laws = on_equiv rank (eq_by_cmp_equiv g.met.R.Rank.Ord.total) in
    let key = g.R.Keyed.key in
    let xs = c.args.changes.now in
    let all = changes_of key xs in
    let at = c.loop-change.change-index in
    let x = c.change-item.result in
    let change = parts_of key x in
    let (says, so_far) = c.loop-change.invariant records start in
    let done = changes_of key (take at xs) in
    let more = changes-more key xs at x c.loop-change-test.true c.change-item.is in
    let now : is_there same (after_all same records done) change.key ≡ c.unwrap_or-is_there.result =
    (sym (says.says change.key (change-changed key xs at x c.loop-change-test.true c.change-item.is same laws))
    ∙ ap (λ n. unwrap_or (get cmp c.loop-change.there n) false) (sym c.rank_of-rank.ensures)
    ∙ ap (λ (o : Option Bool). unwrap_or o false) (sym c.get.ensures.value)
    ∙ ap (λ (o : Option Bool). unwrap_or o false) (sym c.copied.ensures)
    ∙ sym c.unwrap_or-is_there.ensures) in
    let reported : refusals same records (changes_of key (take (at + 1) xs))
    ≡ c.loop-change.refused.items
    ++ cond c.may_be_applied.result [] (record { line = change.line; why = why_unfit c.unwrap_or-is_there.result } ∷ []) =
    (ap (refusals same records) more ∙ refusals-more same laws records done change
    ∙ ap (λ l. l ++ refusal (is_there same (after_all same records done) change.key) change) (sym so_far)
    ∙ ap (λ b. c.loop-change.refused.items ++ refusal b change) now
    ∙ ap (λ (b : Bool). let r : RefusedLine = record { line = change.line; why = why_unfit c.unwrap_or-is_there.result } in
    c.loop-change.refused.items ++ cond b [] (r ∷ [])) (sym c.may_be_applied.ensures)) in (
      subst (λ l. SaysThere same (after_all same records l) all (at_keys rank (get cmp c.insert.new.self))) (sym more)
          (subst (λ l. SaysThere same l all (at_keys rank (get cmp c.insert.new.self)))
          (sym (after_all-append same records done (change ∷ [])))
          (says-after same laws (after_all same records done) all change (at_keys rank (get cmp c.loop-change.there))
          (at_keys rank (get cmp c.insert.new.self)) says
          (λ q. subst (λ n. get cmp c.insert.new.self (rank q)
          ≡ cond (eq_by_cmp cmp n (rank q)) (Some (is_some change.puts)) (get cmp c.loop-change.there (rank q)))
          c.rank_of-rank.ensures
          (c.in_ok-insert.ensures.updates.0 (rank q)
          ∙ ap (λ (b : Bool). cond (eq_by_cmp cmp c.rank_of-rank.result (rank q)) (Some b) (get cmp c.loop-change.there (rank q)))
          c.puts.ensures)))),
      elim c.if-not-may_be_applied.branch [
        | then-not-may_be_applied+in_ok-push w ↦ rw (w.refused-is, w.in_ok-push.ensures.items, w.why_unfit.ensures)
            (ap (λ (b : Bool). c.loop-change.refused.items ++ cond b []
            (record { line = change.line; why = why_unfit c.unwrap_or-is_there.result } ∷ []))
            (sym w.if-not-may_be_applied.true) ∙ sym reported)
        | else-not-may_be_applied w ↦ rw w.refused-is
            (sym (append-nil c.loop-change.refused.items)
            ∙ ap (λ (b : Bool). c.loop-change.refused.items ++ cond b []
            (record { line = change.line; why = why_unfit c.unwrap_or-is_there.result } ∷ []))
            (sym w.if-not-may_be_applied.false) ∙ sym reported)
      ],
    )

pub returns : goal.returns
returns g c = λ records start. (c.loop-change.invariant records start).1
    ∙ ap (λ l. refusals (same_by g.R.Rank.Ord.cmp g.R.Keyed.rank) records (changes_of g.R.Keyed.key l))
    (take_all c.loop-change.change-index c.args.changes.now c.loop-change-test.false)
