-- Which schedule of a train decides on each day: dates whose bodies are the positions of schedules.
use Rattle.std.specs.Prelude.{AllPairs, Bool, Contains, List, None, Option, Some, [], false, get_or, length, map, max, slice_get, true, ℕ, ◌↔◌, ◌+◌, ◌<◌, ◌∷◌, ◌≡◌, ◌≤◌, ◌⊎◌}
use Rattle.std.specs.List.{AllZip}
use Rattle.cif_calendar.specs.{Applies.Applies, Entries.schedule_terms, Runs.BodyRuns, Source.body_at, Terms.Terms}
use Rattle.cif_columns.specs.Stp.{letter}
use Rattle.cif_columns.specs.declared.{stp.Stp.Stp, stp.Stp.TheVariants.O, stp.Stp.TheVariants.P}
use Rattle.std.specs.{Cmp.Lexicographic.slice_cmp, Ordering.nat_cmp}
use Rattle.cif_calendar.specs.Keys.{of_key}
use Rattle.cif_weeks.specs.Canonical.{AreCanonical}
use Rattle.cif_weeks.specs.{HaveForm.HaveForm, Permanent.Permanent, Runs.record_of, WhatRuns.HasBody, Window.IsWithin, Window.Window}
use Rattle.cif_weeks.specs.declared.{form.Form.TheVariants.Three, form.Run.Run}
use Rattle.cif_feed.specs.{Parts.ended, Prepared.prepared_last, PublishedParts.published_schedule_terms, Steps.Dropping.IsStopAmong}
use Rattle.cif_feed.specs.declared.{deciding.DecidingDates.DecidingDates, holidays.Holidays.Holidays}
use Rattle.cif_extract.specs.declared.extract.Schedule.{Schedule}
use Rattle.cif_feed.specs.declared.{prepared_record.PreparedRecord.PreparedRecord, published_extract.PublishedSchedule.PublishedSchedule}

-- ---- dates as entries of the calendar

-- the letter of dates that go before others, and of those
abbrev pub letter_by : Bool → Stp
letter_by true = O
letter_by false = P

-- the terms of dates: what runs on them is the position
abbrev pub terms_of_dates : Run → Bool → Terms ℕ
terms_of_dates run before =
    record { first = run.first; last = max run.first run.last; days = run.days; letter = letter_by before; body = Some run.source }

abbrev pub terms_in : List DecidingDates → List (Terms ℕ)
terms_in entries = map (λ (d : DecidingDates). terms_of_dates d.run d.before) entries

-- dates of a run that go before others or don't
abbrev pub dates_with : Bool → Run → DecidingDates
dates_with before run = record { run = run; before = before }

-- the dates of a part of the schedule at this position, which has this mask
abbrev pub dates_of_part : ℕ → List Bool → PreparedRecord Schedule ℕ → DecidingDates
dates_of_part position days p =
    dates_with false (record { first = p.first; last = p.last; days = days; source = position })

-- ---- runs as records whose bodies are their sources

abbrev pub as_record : Run → Permanent ℕ
as_record run = record_of run run.source

abbrev pub as_records : List Run → List (Permanent ℕ)
as_records runs = map as_record runs

-- they have form 3
abbrev pub AreForm3 : Window → List Run → Type 0
AreForm3 window runs = HaveForm Three window (Contains (as_records runs))

-- one of them has this source and shows the day
abbrev pub ShowsOn : List Run → ℕ → ℕ → Type 0
ShowsOn runs n i = HasBody (Contains (as_records runs)) n i

-- The runs, rising by first day, have form 3, and show on each day of the window what is said of it.
pub record AreShown (window : Window) (on : ℕ → ℕ → Type 0) (runs : List Run) : Type 0 where
  pub rising : AllPairs (λ (r : Permanent ℕ) (s : Permanent ℕ). r.first < s.first) (as_records runs)
  pub have_form : AreForm3 window runs
  pub say : (n i : ℕ) → IsWithin window n → on n i ↔ ShowsOn runs n i

-- The run has the dates and the mask of the record, and its source is the position of an entry with the record's body.
pub record IsRunAt (xs : List (Terms ℕ)) (run : Run) (r : Permanent ℕ) : Type 0 where
  pub dates : r ≡ record_of run r.body
  pub body : body_at xs (Some run.source) ≡ Some r.body

-- The runs are, one by one, those of records of form 3 that show on each day of the window what runs by the entries.
pub record AreRunsAt (window : Window) (xs : List (Terms ℕ)) (runs : List Run) : Type 0 where
  pub records : List (Permanent ℕ)
  pub runs_of : AllZip (IsRunAt xs) runs records
  pub rising : AllPairs (λ (r : Permanent ℕ) (s : Permanent ℕ). r.first < s.first) records
  pub have_form : HaveForm Three window (Contains records)
  pub say : (n i : ℕ) → IsWithin window n → BodyRuns (Contains xs) n i ↔ HasBody (Contains records) n i

-- ---- what decides

-- what the one says of a day, or else the other
abbrev pub IsFirstOf : (ℕ → ℕ → Type 0) → (ℕ → ℕ → Type 0) → ℕ → ℕ → Type 0
IsFirstOf one other n i = one n i ⊎ (((j : ℕ) → ¬ one n j) × other n i)

-- The schedule at the position applies on day n, where an open end is the window's last day, and the day doesn't stop it.
pub record AppliesAt (h : Holidays) (days : List ℕ → List ℕ) (window_last : ℕ) (schedules : List PublishedSchedule) (position n : ℕ)
    : Type 0 where
  pub it : PublishedSchedule
  pub at : slice_get schedules position ≡ Some it
  pub applies : Applies (ended (prepared_last window_last (published_schedule_terms it)) (schedule_terms it.schedule)) n
  pub goes_on : ¬ IsStopAmong h days it.schedule.uid it.code n

-- a schedule's precedence
abbrev pub precedence_in : Option PublishedSchedule → ℕ
precedence_in (Some s) = letter s.schedule.letter
precedence_in None = 0

-- a position with the precedence of its schedule
abbrev pub ranked_at : List PublishedSchedule → ℕ → ℕ × ℕ
ranked_at schedules position = (precedence_in (slice_get schedules position), position)

-- one goes before the other, or is the same: by its precedence, and then by its position
abbrev pub GoesBefore : ℕ × ℕ → ℕ × ℕ → Type 0
GoesBefore p q = (p.0 ≤ q.0) × (p.0 ≡ q.0 → p.1 ≤ q.1)

-- each goes before the next
abbrev pub AreInOrder : List (ℕ × ℕ) → Type 0
AreInOrder ranked = (k : ℕ) (d : ℕ × ℕ) → k + 1 < length ranked → GoesBefore (get_or ranked k d) (get_or ranked (k + 1) d)

-- of the positions, each of which goes before those behind it, this is the first that applies on the day
abbrev pub DecidesAmong : (ℕ → ℕ → Type 0) → List ℕ → ℕ → ℕ → Type 0
DecidesAmong applies [] n i = ⊥
DecidesAmong applies (p ∷ ps) n i = (applies p n × (i ≡ p)) ⊎ ((¬ applies p n) × DecidesAmong applies ps n i)

-- the position of an entry's schedule; without an entry this one
abbrev pub source_in : Option DecidingDates → ℕ → ℕ
source_in (Some d) other = d.run.source
source_in None other = other

-- the run with the position that its entry has
abbrev pub sourced : List DecidingDates → Run → Run
sourced entries run = record run { source = source_in (slice_get entries run.source) run.source }

-- ---- trains

-- The schedule at position i is the train's and applies on the day, and goes before the others of the train that do.
pub record DecidesFor (applies : ℕ → ℕ → Type 0) (schedules : List PublishedSchedule) (train : List ℕ) (n i : ℕ) : Type 0 where
  pub it : PublishedSchedule
  pub at : slice_get schedules i ≡ Some it
  pub of_train : it.schedule.uid ≡ train
  pub on : applies i n
  pub least : (j : ℕ) (other : PublishedSchedule) → slice_get schedules j ≡ Some other → other.schedule.uid ≡ train → applies j n
      → GoesBefore (ranked_at schedules i) (ranked_at schedules j)

-- the train of a schedule
abbrev pub uid_in : Option PublishedSchedule → List ℕ
uid_in (Some s) = s.schedule.uid
uid_in None = []

-- a run as a row: with the train of its schedule
abbrev pub row_of : List PublishedSchedule → Run → List ℕ × Permanent ℕ
row_of schedules run = (uid_in (slice_get schedules run.source), as_record run)

abbrev pub rows_of : List PublishedSchedule → List Run → List (List ℕ × Permanent ℕ)
rows_of schedules runs = map (row_of schedules) runs

-- The rows are in the order of trains and first days, those of each train have form 3, and on each day of the window they show what decides
-- for the train.
pub record AreDecided (window : Window) (applies : ℕ → ℕ → Type 0) (schedules : List PublishedSchedule)
    (rows : List (List ℕ × Permanent ℕ)) : Type 0 where
  pub canonical : AreCanonical (slice_cmp nat_cmp) Three window rows
  pub say : (k : List ℕ) (n i : ℕ) → IsWithin window n → DecidesFor applies schedules k n i ↔ HasBody (of_key rows k) n i
