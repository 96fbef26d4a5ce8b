-- A weekday more, with days (`part-more`) or without any (`part-same`). At the end there is a part (`part-is`), or none (`part-none`).
use Rattle.cif_weeks.proofs.Names.{RunsOn, iff_false, inl, inr, refl, subst, ⊎_elim}
use Rattle.cif_weeks.proofs.Parts.{part-is, part-more, part-same, part-start}
use Rattle.cif_weeks.proofs.fewest.part.Goals as goal
use Rattle.cif_weeks.proofs.fewest.part.Goals.{else-has, then-has+in-Some, then-has+in_default}

pub loop-weekday-init : goal.loop-weekday-init
loop-weekday-init c = part-start _ _ _ _ c.no_days-days.ensures.width c.no_days-days.ensures.none

pub loop-weekday-preserved : goal.loop-weekday-preserved
loop-weekday-preserved c =
    let h = c.loop-weekday.invariant in
    elim c.if-has.branch [
      | then-has+in-Some w ↦
          let union = w.union-days.ensures.runs in
          let only = w.only.ensures.runs in
          rw (w.days-is, w.start-is, w.end-is) (part-more _ _ _ _ _ _ _ h w.union-days.result _ _ w.min-start.result
          w.max-end.result (w.if-has.ensures.0 refl) w.in-Some.ensures.some w.union-days.ensures.width (λ v. (
            λ has. ⊎_elim (λ old. inl old) (λ new. inr ((only v).0 new)) ((union v).0 has),
            λ has. (union v).1 (⊎_elim (λ old. inl old) (λ new. inr ((only v).1 new)) has),
          )) w.min-start.ensures w.max-end.ensures)
      | then-has+in_default w ↦ rw (w.days-is, w.start-is, w.end-is) (part-same _ _ _ _ _ _ _ h (λ n from upto has same.
          w.in_default.ensures.none n from upto same))
      | else-has w ↦ rw (w.days-is, w.start-is, w.end-is) (part-same _ _ _ _ _ _ _ h (λ n from upto has same.
          iff_false c.has.ensures w.if-has.false (subst (RunsOn c.args.run.now.days) same has)))
    ]

pub returns-in-Some-first-clause-some : goal.returns-in-Some-first-clause-some
returns-in-Some-first-clause-some c = part-is _ _ _ _ _ c.max-first.ensures c.min-last.ensures _ c.loop-weekday-test.false _ _ _
    c.loop-weekday.invariant _ c.in-Some-first.ensures.found.runs
