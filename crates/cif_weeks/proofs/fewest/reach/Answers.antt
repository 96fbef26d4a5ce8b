-- One weekday more, of which a day stops the run (`reach-less`), or none does up to there (`reach-same`).
use Rattle.cif_weeks.proofs.{Names.arith, Reach.reach-all, Reach.reach-less, Reach.reach-same, Reach.reach-start, Reach.stops-later}
use Rattle.cif_weeks.proofs.fewest.reach.Goals as goal
use Rattle.cif_weeks.proofs.fewest.reach.Goals.{in-Some+else-day-number, in-Some+then-day-number+in-Some-from_number, in_default}

pub loop-weekday-init : goal.loop-weekday-init
loop-weekday-init c = reach-start _ _

pub loop-weekday-preserved : goal.loop-weekday-preserved
loop-weekday-preserved c =
    let h = c.loop-weekday.invariant in
    elim c.match-stop_on.branch [
      | in-Some+then-day-number+in-Some-from_number w ↦
          let (stops, more) = w.in-Some.ensures.some in
          let later = stops-later _ _ _ stops in
          rw w.reach-is (reach-less _ _ _ _ h w.in-Some.day _ stops more (omega (arith, w.if-day-number.true, w.number.ensures.value))
          (omega (arith, later, w.in-Some-from_number.ensures.1)))
      | in-Some+else-day-number w ↦
          rw w.reach-is (reach-same _ _ _ _ h (λ n at upto. w.in-Some.ensures.some.1 n at
          (omega (arith, upto, w.if-day-number.false, w.number.ensures.value))))
      | in_default w ↦ rw w.reach-is (reach-same _ _ _ _ h (λ n at upto. w.in_default.ensures.none n at))
    ]

pub returns : goal.returns
returns c = reach-all _ _ _ _ c.loop-weekday-test.false c.loop-weekday.invariant
