-- The source of holidays is read, and a fault is reported as one of feeds.
use Rattle.cif_feed.{proofs.Names.refl, proofs.PreparedRead.as-feed, proofs.PreparedRead.fault-as-feed, specs.FeedFault.of_holiday_fault}
use Rattle.cif_extract.proofs.ReadCalls.{at-fault}
use Rattle.cif_feed.proofs.prepare.read_holidays.Goals as goal

pub returns-in_ok-read-in-Some : goal.returns-in_ok-read-in-Some
returns-in_ok-read-in-Some g c =
    rw c.in-Some.is (as-feed _ _ c.in-Some.source c.read.new.source c.in_ok-read-in-Some.field-0 c.in_ok-read-in-Some.ensures)

pub returns-in_err-read-in-Some : goal.returns-in_err-read-in-Some
returns-in_err-read-in-Some g c =
    let fault = c.in_err-read-in-Some.field-0.0 in
    let handed = c.from_residual in
    rw (c.in-Some.is, at-fault handed.result (of_holiday_fault fault) handed.ensures.1)
    (fault-as-feed _ _ c.in-Some.source c.read.new.source fault (of_holiday_fault fault) refl c.in_err-read-in-Some.ensures)
