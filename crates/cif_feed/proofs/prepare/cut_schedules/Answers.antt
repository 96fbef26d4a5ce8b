-- One schedule more is cut at the holidays of its code and at the clash dates of its train (`added-more`).
use Rattle.cif_feed.proofs.Names.{ArePrepared, Contains, IsStopAmong, List, PublishedSchedule, Schedule, ended, map}
use Rattle.cif_feed.proofs.Names.{published_schedule_terms, published_schedules, schedule_entries, schedule_on, schedule_terms, subst}
use Rattle.cif_feed.proofs.Names.{take_all, ℕ, ◌⊎◌}
use Rattle.cif_feed.proofs.PreparedLists.{added-as, added-more, prepared-schedules}
use Rattle.cif_feed.proofs.prepare.cut_schedules.Goals as goal

pub loop-one-preserved : goal.loop-one-preserved
loop-one-preserved c = λ days reads.
    let s = c.one-item.result.schedule in
    let last = c.prepared_last-last.result in
    let holidays = c.of.result.now in
    let dates = c.dates_of-dates.result.now in
    let added = added-as (λ (x : Schedule). x.uid) schedule_terms (λ l. schedule_entries (map schedule_on l)) prepared-schedules
    (λ (d : ℕ). Contains holidays d ⊎ Contains dates d) s.uid (ended last (schedule_terms s)) c.loop-one.prepared.items
    c.add_parts.new.prepared.items c.in_ok-add_parts.ensures in
    added-more (λ (x : PublishedSchedule). (x.schedule.uid, published_schedule_terms x)) c.args.holidays.now days c.args.window_last
    c.args.schedules.now c.loop-one.one-index c.one-item.result (schedule_entries (map schedule_on c.loop-one.prepared.items))
    (schedule_entries (map schedule_on c.add_parts.new.prepared.items)) last holidays dates
    c.loop-one-test.true c.one-item.is (c.prepared_last-last.ensures.last c.one-item.result.code) c.of.ensures.days
    (c.dates_of-dates.ensures.reads days reads) added (c.loop-one.invariant days reads)

pub returns : goal.returns
returns c = λ days reads.
    subst (λ (l : List PublishedSchedule). ArePrepared (IsStopAmong c.args.holidays.now days) c.args.window_last (published_schedules l)
    (schedule_entries (map schedule_on c.loop-one.prepared.items)))
    (take_all c.loop-one.one-index c.args.schedules.now c.loop-one-test.false) (c.loop-one.invariant days reads)
