-- One date more is there, if it is wanted (`also-more`, `also-passed`).
use Rattle.cif_feed.proofs.Names.{IsHoliday, IsTrue, List, false≢true, subst, sym, take_all, ℕ, ◌↔◌, ◌∙◌}
use Rattle.std.specs.Cmp.{booleans_Decides}
use Rattle.cif_feed.proofs.CountedClashes.{AreAlso, also-more, also-passed, wanted-not, wanted-so}
use Rattle.cif_feed.proofs.counting.add_where.Goals as goal
use Rattle.cif_feed.proofs.counting.add_where.Goals.{then-has-wanted+in_ok-push, else-has-wanted}

pub loop-day-preserved : goal.loop-day-preserved
loop-day-preserved c =
    let Q = λ (d : ℕ). IsHoliday c.args.holidays.now c.args.code d ↔ IsTrue c.args.wanted in
    elim c.if-has-wanted.branch [
      | then-has-wanted+in_ok-push w ↦ rw (w.days-is)
          (also-more Q c.args.days.now.items c.args.dates.now c.loop-day.day-index c.day-item.result c.loop-day-test.true c.day-item.is
          c.loop-day.days.items _ w.in_ok-push.ensures.items (wanted-so c.has.result c.args.wanted c.has.ensures
          ((booleans_Decides c.has.result c.args.wanted).0 w.if-has-wanted.true)) c.loop-day.invariant)
      | else-has-wanted w ↦ rw (w.days-is)
          (also-passed Q c.args.days.now.items c.args.dates.now c.loop-day.day-index c.day-item.result c.loop-day-test.true c.day-item.is
          c.loop-day.days.items (wanted-not c.has.result c.args.wanted c.has.ensures
          (λ is. false≢true (sym w.if-has-wanted.false ∙ (booleans_Decides c.has.result c.args.wanted).1 is))) c.loop-day.invariant)
    ]

pub returns : goal.returns
returns c = subst (λ (l : List ℕ). AreAlso (λ (d : ℕ). IsHoliday c.args.holidays.now c.args.code d ↔ IsTrue c.args.wanted)
    c.args.days.now.items l c.loop-day.days.items)
    (take_all c.loop-day.day-index c.args.dates.now c.loop-day-test.false) c.loop-day.invariant
