-- Which published schedule decides on each day of each train.
use Rattle.std.specs.Prelude.{Bool, IsTrue, List, None, Option, Some, [], codes, if◌then◌else◌, slice_get, ℕ, ◌++◌, ◌+◌, ◌<◌, ◌↔◌, ◌∷◌, ◌≡◌, ◌≤◌}
use Rattle.std.specs.List.{flat_map}
use Rattle.cif_columns.specs.{DayDigits.yymmdd_of, DaysRun.days_columns, Stp.letter}
use Rattle.cif_rows.specs.Row.{Field, Value, all_named, heading_text, nothing, row_text, text}
use Rattle.cif_rows.specs.declared.{format.Format.Format, shape.Shape.TheVariants.Date, shape.Shape.TheVariants.Whole}
use Rattle.std.specs.{Cmp.Lexicographic.slice_cmp, Ordering.nat_cmp, declared.cmp.Ordering.Ordering, declared.cmp.Ordering.TheVariants.Less}
use Rattle.cif_calendar.specs.{Clash.IsClash, Clash.IsClear, Entries.schedule_terms, Keys.of_key, Wins.Wins}
use Rattle.cif_extract.specs.declared.{fault.Clash.Clash, fault.Clash.TheVariants.Association, fault.Clash.TheVariants.Train}
use Rattle.cif_records.specs.{AssocKey.key_cmp, declared.association.AssocKey.AssocKey}
use Rattle.cif_weeks.specs.{Canonical.AreCanonical, Permanent.Permanent, WhatRuns.HasBody, Window.IsWithin, Window.window_from}
use Rattle.cif_weeks.specs.declared.form.Form.TheVariants.{Three}
use Rattle.cif_feed.specs.Published.{CountOn, IsClashDay, IsHolidayOf, PublishedTerms}
use Rattle.cif_feed.specs.PublishedParts.{PublishedParts, published_associations, published_schedules}
use Rattle.cif_feed.specs.declared.{holidays.Holidays.Holidays, published_extract.PublishedSchedule.PublishedSchedule}

-- The schedule at this position of the file wins for the train on day d, be it a cancellation: it is the train's, it applies as published,
-- and none of the train's that applies has precedence over it.
pub record WinsAt (h : Holidays) (schedules : List PublishedSchedule) (train : List ℕ) (d position : ℕ) : Type 0 where
  pub schedule : PublishedSchedule
  pub at : slice_get schedules position ≡ Some schedule
  pub of_train : schedule.schedule.uid ≡ train
  pub no_holiday : ¬ IsHolidayOf h schedule.code d
  pub wins : Wins (CountOn h (published_schedules schedules) train d) d (schedule_terms schedule.schedule)

-- It decides: it is the first in the file of those that win, and day d is no clash day of the train, if clashes are dropped.
pub record Decides (h : Holidays) (drops : Bool) (p : PublishedParts) (train : List ℕ) (d position : ℕ) : Type 0 where
  pub wins : WinsAt h p.schedules train d position
  pub first : (other : ℕ) → WinsAt h p.schedules train d other → position ≤ other
  pub kept : ¬ (IsTrue drops × IsClashDay h (published_schedules p.schedules) p.header.first (p.header.last + 1) train d)

-- The rows, each of a train, with dates on which the schedule at a position decides. For each train and position they are the records of
-- form 3 of the days of the window on which it does, and all are in the order of trains and then of first days.
pub record AreWinners (h : Holidays) (drops : Bool) (p : PublishedParts) (rows : List (List ℕ × Permanent ℕ)) : Type 0 where
  pub canonical : AreCanonical (slice_cmp nat_cmp) Three (window_from p.header.first p.header.last) rows
  pub say : (train : List ℕ) (d position : ℕ) → IsWithin (window_from p.header.first p.header.last) d
      → Decides h drops p train d position ↔ HasBody (of_key rows train) d position

-- ---- clashes

-- the key is clear on each day from `first` to `last`, by the published records that count
abbrev pub IsClearAsPublished : {K B : Type 0} → Holidays → List (K × PublishedTerms B) → ℕ → ℕ → K → Type 0
IsClearAsPublished h entries first last k = (d : ℕ) → first ≤ d → d ≤ last → IsClear (CountOn h entries k d) d

-- By the published records that count, the first clash from `first` to `last` is that of key k on day d: each key before k is clear on all
-- these days, and k on those before d. `cmp` is the order of the keys.
pub record IsFirstAsPublished {K B : Type 0} (cmp : K → K → Ordering) (h : Holidays) (entries : List (K × PublishedTerms B))
    (first last : ℕ) (k : K) (d : ℕ) : Type 0 where
  pub from : first ≤ d
  pub upto : d ≤ last
  pub clash : IsClash (CountOn h entries k d) d
  pub clear_before : (e : ℕ) → first ≤ e → e < d → IsClear (CountOn h entries k e) e
  pub keys_before : (j : K) → cmp j k ≡ Less → IsClearAsPublished h entries first last j

-- all associations are clear in the window of the published extract, and all trains
abbrev pub AreAssociationsClear : Holidays → PublishedParts → Type 0
AreAssociationsClear h p =
    (key : AssocKey) → IsClearAsPublished h (published_associations p.associations) p.header.first p.header.last key

abbrev pub AreTrainsClear : Holidays → PublishedParts → Type 0
AreTrainsClear h p = (uid : List ℕ) → IsClearAsPublished h (published_schedules p.schedules) p.header.first p.header.last uid

-- The first clash of a published extract in its window: that of associations, by the least key and its first day, or, where these are
-- clear, that of trains.
abbrev pub IsFirstPublishedClash : Holidays → PublishedParts → Clash → Type 0
IsFirstPublishedClash h p (Association key day) =
    IsFirstAsPublished key_cmp h (published_associations p.associations) p.header.first p.header.last key day
IsFirstPublishedClash h p (Train uid day) = AreAssociationsClear h p
    × IsFirstAsPublished (slice_cmp nat_cmp) h (published_schedules p.schedules) p.header.first p.header.last uid day

-- there is none
pub record HasNoClash (h : Holidays) (p : PublishedParts) : Type 0 where
  pub associations : AreAssociationsClear h p
  pub trains : AreTrainsClear h p

-- ---- the table

-- the fields of the table
abbrev pub winner_names : List (List ℕ)
winner_names =
    codes "uid" ∷ codes "first_date" ∷ codes "last_date" ∷ codes "stp_indicator" ∷ codes "wins_from" ∷ codes "wins_to"
    ∷ codes "days_run" ∷ []

-- the last date of a schedule; nothing for an open end
abbrev pub last_value : PublishedSchedule → Value
last_value s = if s.open_end then nothing else (Date, yymmdd_of s.schedule.last)

-- what they say of a schedule as it was published, and of dates on which it decides
abbrev pub winner_values : PublishedSchedule → Permanent ℕ → List Value
winner_values s r =
    (Whole, s.schedule.uid) ∷ (Date, yymmdd_of s.schedule.first) ∷ last_value s ∷ text (letter s.schedule.letter ∷ [])
    ∷ (Date, yymmdd_of r.first) ∷ (Date, yymmdd_of r.last) ∷ text (days_columns r.days) ∷ []

-- the row of dates and the schedule at their position
abbrev pub winner_row_of : Option PublishedSchedule → Permanent ℕ → List Field
winner_row_of None r = []
winner_row_of (Some s) r = all_named winner_names (winner_values s r)

abbrev pub winner_row : List PublishedSchedule → List ℕ × Permanent ℕ → List Field
winner_row schedules row = winner_row_of (slice_get schedules row.1.body) row.1

-- the table: the names of the fields, and the rows
unfoldable pub winners_table : Format → List PublishedSchedule → List (List ℕ × Permanent ℕ) → List ℕ
winners_table format schedules rows =
    heading_text format winner_names ++ flat_map (λ row. row_text format (winner_row schedules row)) rows
