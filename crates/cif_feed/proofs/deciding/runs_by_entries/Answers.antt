-- The positions are those of all entries: so the runs are those of few entries, or of their calendar (`few-runs`, `calendar-runs`).
use Rattle.cif_feed.proofs.Names.{All, List, length, length-map, subst, sym, ℕ, ◌<◌, ◌∙◌, ◌≡◌}
use Rattle.std.specs.List.{range_with_len}
use Rattle.std.proofs.lemmas.Result.{IfOk-weaker}
use Rattle.cif_calendar.proofs.{KeyPositions.range-within, Positions.AreLawful-chosen}
use Rattle.cif_calendar.specs.{Calendar.IsCalendar, Calendar.IsFault, Clash.IsFirstClash, Source.IsChosen}
use Rattle.cif_weeks.specs.{MemberRuns.AreRunsOfMembers, Window.window_days, declared.form.Form.TheVariants.Three}
use Rattle.cif_feed.specs.Laws.Deciding.{cancelled_dates}
use Rattle.cif_feed.specs.Steps.Deciding.{terms_in, terms_of_dates}
use Rattle.cif_feed.specs.declared.deciding.DecidingDates.{DecidingDates}
use Rattle.cif_feed.proofs.DecidingRuns.{calendar-runs, clear-unclashed, few-runs}
use Rattle.cif_feed.proofs.deciding.runs_by_entries.Goals as goal
use Rattle.cif_feed.proofs.deciding.runs_by_entries.Goals.{After-as_slice-members}

long : (es : List DecidingDates) → length (terms_in es) ≡ length es
long es = length-map es (λ (d : DecidingDates). terms_of_dates d.run d.before)

members : (c : After-as_slice-members) → c.as_slice-members.result.now ≡ range_with_len 0 (length c.args.entries.now)
members c = c.as_slice-members.ensures.value ∙ c.in_ok-members.ensures

within : (c : After-as_slice-members) → All (λ i. i < length c.args.entries.now) c.as_slice-members.result.now
within c = subst (λ (l : List ℕ). All (λ i. i < length c.args.entries.now) l) (sym (members c)) (range-within (length c.args.entries.now))

pub runs_of_few-requires : goal.runs_of_few-requires
runs_of_few-requires c = record { within = within (goal.at.runs_of_few-requires c).After-as_slice-members }

pub returns-then-branch : goal.returns-then-branch
returns-then-branch c =
    let few = rw c.if-branch.true at c.in_ok-runs_of_few.ensures in
    few-runs (terms_in c.args.entries.now) (length c.args.entries.now) (long c.args.entries.now) (window_days c.args.window.now)
    c.runs_of_few.new.runs.items
    (subst (λ (l : List ℕ). AreRunsOfMembers Three (terms_in c.args.entries.now) l (window_days c.args.window.now)
    c.runs_of_few.new.runs.items) (members (goal.at.returns-then-branch c).After-as_slice-members) few)

pub calendar-requires : goal.calendar-requires
calendar-requires c = record { positions = within (goal.at.calendar-requires c).After-as_slice-members }

pub returns-in-Ok : goal.returns-in-Ok
returns-in-Ok c =
    let es = c.args.entries.now in
    let is = subst (λ (l : List ℕ). IsCalendar (terms_in es) l c.args.window.now.first c.args.window.now.last c.in-Ok.calendar)
    (members (goal.at.returns-in-Ok c).After-as_slice-members) c.in-Ok.ensures.calendar in
    IfOk-weaker c.runs.result _ _
    (λ runs made. calendar-runs (terms_in es) (length es) (long es) (window_days c.args.window.now) c.in-Ok.calendar is
    (AreLawful-chosen (λ (d : DecidingDates). d.run.source) (λ (d : DecidingDates). terms_of_dates d.run d.before)
    (λ d. cancelled_dates d.run d.before) es (range_with_len 0 (length es))) runs.items made)
    c.runs.ensures

pub unreachable-requires : goal.unreachable-requires
unreachable-requires c =
    let es = c.args.entries.now in
    clear-unclashed (terms_in es) (length es) (long es) (window_days c.args.window.now) c.requires c.in-Err-Ambiguous.field-0-0
    (subst (λ (l : List ℕ). IsFirstClash (IsChosen (terms_in es) l) c.args.window.now.first c.args.window.now.last
    c.in-Err-Ambiguous.field-0-0) (members (goal.at.unreachable-requires c).After-as_slice-members)
    (subst (IsFault (IsChosen (terms_in es) c.as_slice-members.result.now) c.args.window.now.first c.args.window.now.last)
    c.in-Err-Ambiguous.field-0-is c.in-Err-Ambiguous.ensures.fault))
