-- It is taken as a line of an extract of this profile is (`own_taken`), and its kind tells its mark (`own_marked`).
use Rattle.cif_feed.proofs.Names.{Err, HolidayCodes, IsMarkedTaken, IsOwn, IsRecordTaken, IsTaken, Ok, Result, TakeFault, own_layouts}
use Rattle.cif_feed.proofs.Names.{progress_of, refusal_at, subst, sym, ◌∙◌}
use Rattle.cif_feed.proofs.{FeedSteps.own_taken, MarkLaws.own_marked, MarkLaws.passed_on, feed_reading.take_own.Goals.After-take}
use Rattle.cif_feed.proofs.feed_reading.take_own.Goals as goal

module _ (c : After-take) where
  taken : (allowed : HolidayCodes) (result : Result Unit TakeFault)
      → IsTaken (refusal_at own_layouts c.args.reading.now.place c.args.line.now) c.args.line.now (progress_of c.args.reading.now) result
      (progress_of c.take.new.self)
      → IsRecordTaken c.args.feed allowed c.args.line.now (progress_of c.args.reading.now) result (progress_of c.take.new.self)
  taken allowed result =
      own_taken c.args.feed allowed c.args.line.now (progress_of c.args.reading.now)
      (subst (λ k. IsOwn k c.args.feed) (sym c.requires.kind) c.requires.own) result (progress_of c.take.new.self)

pub returns : goal.returns
returns c = λ allowed number.
    let a = c.args in
    let own = taken (goal.at.returns c).After-take allowed (Ok tt) c.in_ok-take.ensures.taken in (
      own,
      c.own_mark.ensures ∙ own_marked a.feed allowed number a.line.now (progress_of a.reading.now) (progress_of c.take.new.self) a.kind
          c.requires.kind c.requires.own own,
    )

pub returns-in_err-take : goal.returns-in_err-take
returns-in_err-take c = λ allowed number.
    let a = c.args in
    passed_on (λ r. IsMarkedTaken a.feed allowed (number, a.line.now) (progress_of a.reading.now) r (progress_of c.take.new.self))
    c.in_err-take.field-0.0 c.from_residual.result c.from_residual.ensures.1
    (taken (goal.at.returns-in_err-take c).After-take allowed (Err c.in_err-take.field-0.0) c.in_err-take.ensures.taken)
