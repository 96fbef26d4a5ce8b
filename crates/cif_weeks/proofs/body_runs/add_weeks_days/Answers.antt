-- The weeks are the days of one run (`weeks-exact`), and none of the body's are before it or after it in them.
use Rattle.cif_weeks.proofs.Names.{IfOk-weaker, One, Shows, arith, monday_of, refl, week_of, weekday_of, ◌+◌}
use Rattle.cif_weeks.proofs.BodyRuns.{first-date, last-date, none-later, none-sooner, weeks-exact}
use Rattle.cif_weeks.proofs.FewestRuns.{fewest-idle}
use Rattle.cif_weeks.proofs.body_runs.add_weeks_days.Goals as goal

pub returns-in_default : goal.returns-in_default
returns-in_default c spans old next start (made, are, few) =
    let a = c.args in
    let from = next.one_mask.from in (
      made,
      are,
      fewest-idle (Shows spans a.source) a.source (monday_of a.week) (monday_of (a.weeks.last + 1)) made (omega arith)
          (λ n from less on.
          c.in_default.ensures.none (weekday_of n) ((next.one_mask.masks (week_of n) (omega arith) (omega arith)).shows n refl on))
          few,
    )

pub day_of-requires-clause-in_range : goal.day_of-requires-clause-in_range
day_of-requires-clause-in_range c =
    let (spans, next) = c.requires.shown in
    first-date One _ (Shows spans c.args.source) c.args.source next.inside tt c.args.week c.args.weeks.last c.args.weeks
    next.one_mask _ _ c.in-Some.ensures.found c.in-Some-last.ensures.found c.requires.in_range

pub day_of-requires-2-clause-in_range : goal.day_of-requires-2-clause-in_range
day_of-requires-2-clause-in_range c =
    let (spans, next) = c.requires.shown in
    last-date One _ (Shows spans c.args.source) c.args.source next.inside tt c.args.week c.args.weeks.last c.args.weeks
    next.one_mask _ _ c.in-Some.ensures.found c.in-Some-last.ensures.found c.requires.in_range

pub returns : goal.returns
returns c = IfOk-weaker c.add_days.result _ _ (λ _ e spans old next start added.
    let a = c.args in
    let on = Shows spans a.source in
    let first = c.day_of.result in
    let last = c.day_of-2.result in
    let mask = next.one_mask in
    let is_first = c.in-Some.ensures.found in
    let is_last = c.in-Some-last.ensures.found in
    let first_at = c.day_of.ensures in
    let last_at = c.day_of-2.ensures in
    let exact = weeks-exact on a.week a.weeks.last a.weeks mask _ _ is_first is_last first last first_at last_at in
    let (made, are, few) = e spans old (monday_of a.week) start exact (omega arith)
    (none-sooner on a.week a.weeks.last a.weeks mask _ _ is_first is_last first last first_at last_at) added in (
      made,
      are,
      fewest-idle on a.source (last + 1) (monday_of (a.weeks.last + 1)) made (omega (arith, c.in-Some-last.ensures.in_range))
          (none-later on a.week a.weeks.last a.weeks mask _ _ is_first is_last first last first_at last_at) few,
    )) c.add_days.ensures
