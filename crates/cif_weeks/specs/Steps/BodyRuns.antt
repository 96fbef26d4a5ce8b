-- Steps to the runs of few records: those of one body, week by week. No public clause cites them.
use Rattle.std.specs.Prelude.{◌≡◌, ◌≢◌, ℕ, ◌+◌, ◌*◌, ◌-◌, ◌<◌, ◌++◌, List, Bool, [], ◌∷◌, AllPairs, Contains, reverse}
use Rattle.cif_columns.specs.{Day.week_of, declared.stp.Stp.TheVariants.C}
use Rattle.cif_calendar.specs.Applies.{IsAmongDates}
use Rattle.cif_weeks.specs.{Exact.IsExact, Permanent.Permanent, Runs.record_of, Steps.Growing.Breaks, Steps.Growing.IsGrown}
use Rattle.cif_weeks.specs.{Steps.Growing.IsLongest, Steps.Growing.IsMade, Steps.Spans.HaveOneMask, Steps.Spans.IsAgreed, Steps.Spans.Shows}
use Rattle.cif_weeks.specs.{Window.IsWithin, Window.Window, declared.form.Form.Form, declared.form.Form.TheVariants.One}
use Rattle.cif_weeks.specs.declared.form.Form.TheVariants.{Three, Two}
use Rattle.cif_weeks.specs.{declared.form.Run.Run, declared.span.Span.Span, declared.span.Weeks.Weeks}

-- the dates and the mask of a run as those of a record, with the run's source as the body
abbrev pub dates_of : Run → Permanent ℕ
dates_of run = record_of run run.source

-- The run has all weeks of these days from its first week on that come before `limit`.
pub record IsLatest (form : Form) (window : Window) (on : ℕ → Type 0) (source limit : ℕ) (run : Run) : Type 0 where
  pub grown : IsGrown form window on (dates_of run)
  pub source_is : run.source ≡ source
  pub upto : week_of run.last < limit
  pub none_after : (n : ℕ) → week_of run.last < week_of n → week_of n < limit → ¬ on n

-- the run that is before it, if there is one, isn't joined by it
abbrev pub BreaksBefore : Form → Window → (ℕ → Type 0) → Run → List Run → Type 0
BreaksBefore form window on run [] = Unit {0}
BreaksBefore form window on run (before ∷ _) = week_of run.first ≡ week_of before.last + 1 → Breaks form window on (dates_of before)

-- The runs of these days in the weeks before `limit`, the latest first.
abbrev pub AreBodyRuns : Form → Window → (ℕ → Type 0) → ℕ → ℕ → List Run → Type 0
AreBodyRuns form window on source limit [] = (n : ℕ) → week_of n < limit → ¬ on n
AreBodyRuns form window on source limit (run ∷ before) = IsLatest form window on source limit run
    × BreaksBefore form window on run before × AreBodyRuns form window on source (week_of run.first) before

-- Form 3. The run has the latest of these days that come before day `limit`.
pub record IsLatestExact (on : ℕ → Type 0) (source limit : ℕ) (run : Run) : Type 0 where
  pub exact : IsExact on run.first run.last run.days
  pub source_is : run.source ≡ source
  pub upto : run.last < limit
  pub none_after : (n : ℕ) → run.last < n → n < limit → ¬ on n

-- no dates and mask that go on from the run before it, if there is one, to its first day are exact
abbrev pub IsLongestBefore : (ℕ → Type 0) → Run → List Run → Type 0
IsLongestBefore on run [] = Unit {0}
IsLongestBefore on run (before ∷ _) = (days : List Bool) → ¬ IsExact on before.first run.first days

-- Form 3. The runs of these days before day `limit`, the latest first.
abbrev pub AreFewestBefore : (ℕ → Type 0) → ℕ → ℕ → List Run → Type 0
AreFewestBefore on source limit [] = (n : ℕ) → n < limit → ¬ on n
AreFewestBefore on source limit (run ∷ before) =
    IsLatestExact on source limit run × IsLongestBefore on run before × AreFewestBefore on source run.first before

-- the Monday of a week, or day 0
abbrev pub monday_of : ℕ → ℕ
monday_of week = 7 * week - 4

-- The runs of these days in the weeks before `limit`, the latest first.
abbrev pub AreRunsBefore : Form → Window → (ℕ → Type 0) → ℕ → ℕ → List Run → Type 0
AreRunsBefore One window on source limit made = AreBodyRuns One window on source limit made
AreRunsBefore Two window on source limit made = AreBodyRuns Two window on source limit made
AreRunsBefore Three window on source limit made = AreFewestBefore on source (monday_of limit) made

-- the runs after the old ones are those that are made
abbrev pub AreAdded : List Run → List Run → (List Run → Type 0) → Type 0
AreAdded old runs IsSo = (made : List Run) × (runs ≡ old ++ reverse made) × IsSo made

-- The runs after the old ones are those of these days in the weeks before `limit`.
abbrev pub AreGrownTo : Form → Window → (ℕ → Type 0) → ℕ → ℕ → List Run → List Run → Type 0
AreGrownTo form window on source limit old runs =
    AreAdded old runs (λ made. AreRunsBefore form window on source limit made)

-- the source is shown in the window alone, and in the weeks from `week` on it has this mask
pub record AreNextWeeks (window : Window) (spans : List Span) (source week : ℕ) (weeks : Weeks) : Type 0 where
  pub inside : (n : ℕ) → Shows spans source n → IsWithin window n
  pub one_mask : HaveOneMask (Shows spans source) week weeks.last weeks

-- The runs are those of all days on which the source is shown, and the spans agree on these days.
pub record AreRunsOfBody (form : Form) (window : Window) (spans : List Span) (source : ℕ) (runs : List Run) : Type 0 where
  pub limit : ℕ
  pub over : (n : ℕ) → Shows spans source n → week_of n < limit
  pub body_runs : AreRunsBefore form window (Shows spans source) source limit (reverse runs)
  pub agreed : (n : ℕ) → Shows spans source n → IsAgreed spans n

-- the span has a body
abbrev pub HasBody : Span → Type 0
HasBody span = span.letter ≢ C

-- a span of the list with a body has this source
abbrev pub HasSource : List Span → ℕ → Type 0
HasSource spans source = (s : Span) × Contains spans s × HasBody s × (s.source ≡ source)

-- the run is one of a span with a body
pub record IsSpansRun (form : Form) (window : Window) (spans : List Span) (run : Run) : Type 0 where
  pub span : Span
  pub listed : Contains spans span
  pub has_body : HasBody span
  pub source : span.source ≡ run.source
  pub made : IsMade form window (Shows spans run.source) (dates_of run)

-- run r ends in a week before that in which s begins, and where that is the very next week, it doesn't join r
pub record EndsWeeksBefore (form : Form) (window : Window) (on : ℕ → Type 0) (r s : Run) : Type 0 where
  pub before : week_of r.last < week_of s.first
  pub breaks : week_of s.first ≡ week_of r.last + 1 → Breaks form window on (dates_of r)

-- run r ends before s begins, and doesn't go on to it
abbrev pub EndsBefore : Form → Window → (ℕ → Type 0) → Run → Run → Type 0
EndsBefore One window on r s = EndsWeeksBefore One window on r s
EndsBefore Two window on r s = EndsWeeksBefore Two window on r s
EndsBefore Three window on r s = IsLongest on (dates_of r) (dates_of s)

-- day n is one of a run with this source
pub record HasDayOf (runs : List Run) (source n : ℕ) : Type 0 where
  pub run : Run
  pub listed : Contains runs run
  pub is : run.source ≡ source
  pub on : IsAmongDates run.first run.last run.days n

-- The runs, rising by first date, are those of all spans that have a body.
pub record AreRunsOfSpans (form : Form) (window : Window) (spans : List Span) (runs : List Run) : Type 0 where
  pub rising : AllPairs (λ r s. r.first < s.first) runs
  pub each : (run : Run) → Contains runs run → IsSpansRun form window spans run
  pub apart : (r s : Run) → Contains runs r → Contains runs s → r.source ≡ s.source → r.first < s.first →
      EndsBefore form window (Shows spans r.source) r s
  pub complete : (s : Span) (n : ℕ) → Contains spans s → HasBody s → Shows spans s.source n → HasDayOf runs s.source n
  pub agreed : (s : Span) (n : ℕ) → Contains spans s → HasBody s → Shows spans s.source n → IsAgreed spans n
