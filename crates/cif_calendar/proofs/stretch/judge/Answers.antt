-- One day more sets its weekday's winner; among seven days that is no other day's, so the others stay (`week-more`). The winners of the
-- first week are those of the whole piece (`piece-from_week`).
use Rattle.cif_calendar.proofs.Names.{arith, length-set, min, refl, subst, weekday_of, ◌+◌, ◌∙◌, ◌≡◌}
use Rattle.cif_calendar.proofs.UnbrokenStretches.{IsWeekFrom, piece-from_week, week-more}
use Rattle.cif_calendar.proofs.stretch.judge.Goals as goal
use Rattle.cif_calendar.proofs.stretch.judge.Goals.{else-loop-test, then-loop-test+in_ok-winners+in-None}

pub winner_by-requires-clause-stands : goal.winner_by-requires-clause-stands
winner_by-requires-clause-stands g c =
    let place : c.from-weekday.result ≡ weekday_of c.loop.day = c.from-weekday.ensures ∙ c.weekday.ensures.value in
    rw place (c.requires.stretch.1.stands c.loop.day (omega arith) c.loop.invariant.upto)

pub loop-preserved : goal.loop-preserved
loop-preserved g c = let is = c.loop.invariant in record {
  seven = length-set _ _ _ ∙ is.seven;
  day_is = omega (arith, c.in-Some.ensures);
  upto = omega (arith, c.in-Some.ensures);
  week = week-more c.args.members.now.terms c.args.members.now.positions c.args.first c.loop.day
      c.from-weekday.result c.in-Some.next
      c.loop.winners c.in_ok-winners.field-0 (c.from-weekday.ensures ∙ c.weekday.ensures.value) c.in-Some.ensures.1 is.seven (omega arith)
      (omega arith) c.in_ok-winners.ensures.1 c.in_ok-winners.ensures.0 is.week;
}

pub returns-clause-piece : goal.returns-clause-piece
returns-clause-piece g c =
    let xs = c.args.members.now.terms in
    let members = c.args.members.now.positions in
    let is = c.loop.invariant in (
      refl,
      refl,
      piece-from_week xs members (record { first = c.args.first; last = c.args.stretch.now.last; winners = c.loop-test.winners })
          c.requires.stretch.1.unbroken (elim c.loop-test.branch [
            | else-loop-test w ↦ rw w.winners-is (subst (λ n. IsWeekFrom xs members c.args.first n c.loop.winners)
                (omega (arith, is.day_is, is.upto, w.loop-test.false)) is.week)
            | then-loop-test+in_ok-winners+in-None w ↦ rw w.winners-is (week-more xs members c.args.first c.loop.day w.from-weekday.result
                (min (c.args.stretch.now.last + 1) (c.args.first + 7)) c.loop.winners w.in_ok-winners.field-0
                (w.from-weekday.ensures ∙ w.weekday.ensures.value) (omega (arith, w.in-None.ensures)) is.seven (omega arith) (omega arith)
                w.in_ok-winners.ensures.1 w.in_ok-winners.ensures.0 is.week)
          ]),
    )
