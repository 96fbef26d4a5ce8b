-- Steps to the runs of form 3: how far a run goes on, and what is left of those after it. No public clause cites them.
use Rattle.std.specs.Prelude.{◌≡◌, ℕ, ◌+◌, ◌<◌, ◌≤◌, ◌⊎◌, ◌↔◌, Bool, List, None, Option, Some, length}
use Rattle.cif_columns.specs.{Day.weekday_of, DaysRun.RunsOn}
use Rattle.cif_calendar.specs.Applies.{IsAmongDates}
use Rattle.cif_weeks.specs.{Exact.IsExact, declared.form.Run.Run}

-- day n is one of the run's
abbrev pub IsRunDay : Run → ℕ → Type 0
IsRunDay run n = IsAmongDates run.first run.last run.days n

-- Run r can go on on day n into s, which comes after it: after r a weekday of r's is one of s's, in s; and the first of another weekday of
-- s's isn't before s.
pub record GoesOn (r s : Run) (n : ℕ) : Type 0 where
  pub old : RunsOn r.days (weekday_of n) → r.last < n → (s.first ≤ n) × RunsOn s.days (weekday_of n)
  pub new : RunsOn s.days (weekday_of n) → s.first ≤ n → ¬ RunsOn r.days (weekday_of n) →
      (m : ℕ) → weekday_of m ≡ weekday_of n → r.first ≤ m → s.first ≤ m

-- day n is on a weekday of r's, but it isn't a day of s
pub record IsMissing (r s : Run) (n : ℕ) : Type 0 where
  pub after : r.last < n
  pub has : RunsOn r.days (weekday_of n)
  pub no_day : s.first ≤ n → ¬ RunsOn s.days (weekday_of n)

-- day n is the first day of s on a weekday that r doesn't have, and it comes too late: r is longer than a week by then
pub record IsTooLate (r s : Run) (n : ℕ) : Type 0 where
  pub from : s.first ≤ n
  pub first : n < s.first + 7
  pub has : RunsOn s.days (weekday_of n)
  pub new : ¬ RunsOn r.days (weekday_of n)
  pub late : r.first + 7 ≤ n

-- run r can't go on on day n into s
abbrev pub Stops : Run → Run → ℕ → Type 0
Stops r s n = IsMissing r s n ⊎ IsTooLate r s n

-- `reach` is the last day of s's range up to which r can go on
pub record IsReach (r s : Run) (reach : ℕ) : Type 0 where
  pub upto : reach ≤ s.last
  pub goes_on : (n : ℕ) → n ≤ reach → GoesOn r s n
  pub stops : reach < s.last → Stops r s (reach + 1)

-- `it` has the days of `run` from one day to another, and begins and ends on one of them
pub record IsPart (run : Run) (from to : ℕ) (it : Run) : Type 0 where
  pub seven : length it.days ≡ 7
  pub source_is : it.source ≡ run.source
  pub days : (n : ℕ) → IsRunDay it n ↔ (IsRunDay run n × (from ≤ n) × (n ≤ to))
  pub first_on : IsRunDay it it.first
  pub last_on : IsRunDay it it.last
  pub used : (w : ℕ) → RunsOn it.days w → (n : ℕ) × (weekday_of n ≡ w) × IsRunDay it n

-- What is left of `next`, after day `last`: nothing, or a run that the one from `first` on can't go on to.
abbrev pub IsLeft : (ℕ → Type 0) → ℕ → ℕ → Run → Option Run → Type 0
IsLeft on first last next None = (n : ℕ) → last < n → n ≤ next.last → ¬ on n
IsLeft on first last next (Some left) = IsExact on left.first left.last left.days × (left.source ≡ next.source)
    × (last < left.first) × (left.last ≤ next.last) × ((n : ℕ) → last < n → n < left.first → ¬ on n)
    × ((n : ℕ) → left.last < n → n ≤ next.last → ¬ on n) × ((days : List Bool) → ¬ IsExact on first left.first days)

-- Run `it` is `run`, which has gone on into `next` as long as can be.
pub record HasGoneOn (on : ℕ → Type 0) (run next it : Run) (left : Option Run) : Type 0 where
  pub exact : IsExact on it.first it.last it.days
  pub first_is : it.first ≡ run.first
  pub source_is : it.source ≡ run.source
  pub upto : it.last ≤ next.last
  pub rest : IsLeft on it.first it.last next left
