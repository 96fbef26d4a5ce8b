-- One line more is reported, or not (`reported-more`).
use Rattle.cif_feed.proofs.Names.{RefusedLine, [], ap, append-nil, append_assoc, cond, eq-eqb, get_or, last_line, ne_eqb, reported_once}
use Rattle.cif_feed.proofs.Names.{sym, take, take_all, take_more, ℕ, ◌++◌, ◌+◌, ◌==◌, ◌∙◌, ◌∷◌, ◌≡◌}
use Rattle.cif_feed.proofs.{UpdatesInTurn.last-more, UpdatesInTurn.reported-more, update.report_once.Goals.else-line-last}
use Rattle.cif_feed.{proofs.update.report_once.Goals.then-line-last+in_ok-push, specs.declared.changes.Unfit.TheVariants.OutOfSequence}
use Rattle.cif_feed.proofs.update.report_once.Goals as goal

pub loop-line-preserved : goal.loop-line-preserved
loop-line-preserved c =
    let xs = c.args.refused.now in
    let i = c.loop-line.line-index in
    let p = c.args.previous in
    let none : RefusedLine = record { line = 0; why = OutOfSequence } in
    let x = get_or xs i none in
    let (so_far, last) = c.loop-line.invariant in
    let more = take_more xs i none c.loop-line-test.true in
    let reported : c.args.reported.now.items ++ reported_once p (take (i + 1) xs)
    ≡ c.loop-line.reported.items ++ cond (x.line == c.loop-line.last) [] (x ∷ []) =
    (ap (λ l. c.args.reported.now.items ++ reported_once p l) more
    ∙ ap (λ l. c.args.reported.now.items ++ l) (reported-more p (take i xs) x)
    ∙ sym (append_assoc c.args.reported.now.items (reported_once p (take i xs)) (cond (x.line == last_line p (take i xs)) [] (x ∷ [])))
    ∙ ap (λ l. l ++ cond (x.line == last_line p (take i xs)) [] (x ∷ [])) (sym so_far)
    ∙ ap (λ (n : ℕ). c.loop-line.reported.items ++ cond (x.line == n) [] (x ∷ [])) (sym last)) in (
      elim c.if-line-last.branch [
        | then-line-last+in_ok-push w ↦ rw (w.reported-is, w.in_ok-push.ensures.items) (sym (reported
            ∙ ap (λ b. c.loop-line.reported.items ++ cond b [] (x ∷ [])) (ne_eqb x.line c.loop-line.last w.if-line-last.true)))
        | else-line-last w ↦ rw w.reported-is (sym (reported
            ∙ ap (λ b. c.loop-line.reported.items ++ cond b [] (x ∷ [])) (eq-eqb x.line c.loop-line.last w.if-line-last.false)
            ∙ append-nil c.loop-line.reported.items))
      ],
      sym (ap (last_line p) more ∙ last-more p (take i xs) x),
    )

pub returns-clause-reported : goal.returns-clause-reported
returns-clause-reported c =
    c.loop-line.invariant.0
    ∙ ap (λ l. c.args.reported.now.items ++ reported_once c.args.previous l)
    (take_all c.loop-line.line-index c.args.refused.now c.loop-line-test.false)

pub returns-clause-last : goal.returns-clause-last
returns-clause-last c =
    c.loop-line.invariant.1 ∙ ap (last_line c.args.previous) (take_all c.loop-line.line-index c.args.refused.now c.loop-line-test.false)
