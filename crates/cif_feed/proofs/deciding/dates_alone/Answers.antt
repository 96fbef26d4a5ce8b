-- The entries are the dates of the parts (`entries-of_parts`), which all are the schedule's.
use Rattle.cif_feed.proofs.Names.{AreAdded, Contains, List, PreparedRecord, Schedule, Terms, [], ap, ended, map, map_more, records_on}
use Rattle.cif_feed.proofs.Names.{schedule_terms, length, slice_get_within, subst, sym, take, take_all, ℕ, ◌++◌, ◌<◌, ◌∙◌, ◌∷◌, ◌≡◌, ◌⊎◌}
use Rattle.std.proofs.lemmas.Result.{IfOk-weaker}
use Rattle.cif_calendar.specs.Runs.{BodyRuns}
use Rattle.cif_extract.specs.Body.{BodyLines}
use Rattle.cif_weeks.specs.Window.{window_days}
use Rattle.cif_feed.specs.Steps.Deciding.{AreShown, dates_of_part, terms_in}
use Rattle.cif_feed.specs.declared.deciding.DecidingDates.{DecidingDates}
use Rattle.cif_feed.proofs.DecidingRuns.{sources-bound}
use Rattle.cif_feed.proofs.PartDates.{entries-of_parts, part-position, part_dates, parts-clear, parts-shown}
use Rattle.cif_feed.proofs.deciding.dates_alone.Goals as goal
use Rattle.cif_feed.proofs.deciding.dates_alone.Goals.{After-as_slice}

added : (c : After-as_slice) → AreAdded {K = List ℕ} {B = BodyLines}
    (λ (d : ℕ). Contains c.of-holidays.result.now d ⊎ Contains c.dates_of-dates.result.now d)
    c.args.one.now.schedule.uid
    (ended c.prepared_last-last.result (schedule_terms c.args.one.now.schedule)) []
    (records_on (λ (s : Schedule). s.uid) schedule_terms c.deref-part-items.result.now)
added c = rw (c.deref-part-items.ensures.value) (rw c.new-parts.ensures.items at c.in_ok-add_parts.ensures)

entries : (c : After-as_slice) → terms_in c.as_slice.result.now
    ≡ map (part_dates c.args.position c.args.one.now.schedule.days) (added c).0
entries c =
    ap terms_in (c.as_slice.ensures.value ∙ (c.loop-part.invariant
    ∙ ap (λ (l : List (PreparedRecord Schedule ℕ)). map (dates_of_part c.args.position c.args.one.now.schedule.days) l)
    (take_all c.loop-part.part-index c.deref-part-items.result.now c.loop-part-test.false)))
    ∙ entries-of_parts c.args.position c.args.one.now.schedule.days _ _ _ c.deref-part-items.result.now (added c)

pub loop-part-init : goal.loop-part-init
loop-part-init c = c.in_ok-entries.ensures.items

pub loop-part-preserved : goal.loop-part-preserved
loop-part-preserved c =
    c.in_ok-push.ensures.items
    ∙ (ap (λ (l : List DecidingDates). l ++ dates_of_part c.args.position c.args.one.now.schedule.days c.part-item.result ∷ [])
    c.loop-part.invariant
    ∙ (ap (λ (p : PreparedRecord Schedule ℕ). map (dates_of_part c.args.position c.args.one.now.schedule.days)
    (take c.loop-part.part-index c.deref-part-items.result.now) ++ dates_of_part c.args.position c.args.one.now.schedule.days p ∷ [])
    c.part-item.is
    ∙ sym (map_more (dates_of_part c.args.position c.args.one.now.schedule.days) c.deref-part-items.result.now c.loop-part.part-index
    c.part-item.result c.loop-part-test.true)))

pub runs_of-requires : goal.runs_of-requires
runs_of-requires c = λ n within.
    let here = (goal.at.runs_of-requires c).After-as_slice in
    rw (entries here) (parts-clear c.args.position c.args.one.now.schedule.days (added here).0 n)

pub returns-clause-within : goal.returns-clause-within
returns-clause-within c =
    let here = (goal.at.returns-clause-within c).After-as_slice in
    let below = slice_get_within c.args.deciders.schedules.now c.args.position c.args.one.now c.requires in
    IfOk-weaker c.runs_of.result _ _
    (λ runs shown. sources-bound (window_days c.args.deciders.window.now) (BodyRuns (Contains (terms_in c.as_slice.result.now))) runs.items shown
    (length c.args.deciders.schedules.now)
    (λ n i runs. subst (λ (j : ℕ). j < length c.args.deciders.schedules.now)
    (part-position c.args.position c.args.one.now.schedule.days (added here).0 n i
    (subst (λ (l : List (Terms ℕ)). BodyRuns (Contains l) n i) (entries here) runs)) below))
    c.runs_of.ensures

pub returns-clause-form : goal.returns-clause-form
returns-clause-form c = IfOk-weaker c.runs_of.result _ _ (λ runs shown. shown.have_form) c.runs_of.ensures

pub returns-clause-decides : goal.returns-clause-decides
returns-clause-decides c =
    let here = (goal.at.returns-clause-decides c).After-as_slice in
    let s = c.args.one.now in
    IfOk-weaker c.runs_of.result _ _
    (λ runs shown days reads. parts-shown c.args.deciders.holidays.now days (window_days c.args.deciders.window.now)
    c.args.deciders.schedules.now c.args.position s c.requires c.prepared_last-last.result (c.prepared_last-last.ensures.last s.code)
    c.of-holidays.result.now c.dates_of-dates.result.now c.of-holidays.ensures.days (c.dates_of-dates.ensures.reads days reads)
    (added here).0 (added here).1 runs.items
    (subst (λ (l : List (Terms ℕ)). AreShown (window_days c.args.deciders.window.now) (BodyRuns (Contains l)) runs.items)
    (entries here) shown))
    c.runs_of.ensures
