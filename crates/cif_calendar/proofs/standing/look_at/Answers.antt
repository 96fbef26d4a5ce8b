-- One of the weekdays is looked at, and another stays as it was (`stepped`, `stepped-same`).
use Rattle.cif_calendar.proofs.Names.{arith, iff_false, inl, inr, refl}
use Rattle.cif_calendar.proofs.{Standings.stepped, Standings.stepped-same, standing.look_at.Goals.else-has, standing.look_at.Goals.then-has}
use Rattle.cif_calendar.proofs.standing.look_at.Goals as goal

pub loop-weekday-init : goal.loop-weekday-init
loop-weekday-init g c = record {
  alike = c.requires.alike;
  stepped = record { below = c.requires.below; each = λ w less. absurd (omega arith); rest = λ w upto. refl };
}

pub loop-weekday-preserved : goal.loop-weekday-preserved
loop-weekday-preserved g c =
    elim c.if-has.branch [
      | then-has w ↦ record {
        alike = rw w.alike-is w.combine.ensures.alike;
        stepped = rw w.standings-is (stepped _ _ _ _ _ c.loop-weekday-test.true c.loop-weekday.invariant.stepped _ _ w.from-place.ensures
            (w.combine.ensures.stands.below _ (c.loop-weekday.invariant.stepped.below.below w.from-place.result)
            (c.requires.others.below w.from-place.result))
            (inl (c.has.ensures.0 w.if-has.true, rw w.from-place.ensures at w.combine.ensures.stands)));
      }
      | else-has w ↦ record {
        alike = rw w.alike-is c.loop-weekday.invariant.alike;
        stepped = rw w.standings-is (stepped-same _ _ _ _ _ c.loop-weekday-test.true c.loop-weekday.invariant.stepped
            (inr (iff_false c.has.ensures w.if-has.false, refl)));
      }
    ]
