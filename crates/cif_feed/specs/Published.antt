-- When a published record applies, and which records count on a day.
use Rattle.std.specs.Prelude.{◌⊎◌, ℕ, Bool, true, false, List, Option, Some, None, Contains}
use Rattle.cif_calendar.specs.{Applies.Applies, ClashDates.IsClashBetween, Terms.Terms}
use Rattle.cif_feed.specs.{Holidays.IsHoliday, declared.holidays.HolidayCode.HolidayCode, declared.holidays.Holidays.Holidays}

-- What the rules read of a published record: its terms as a record of this profile, in which an open end is the last day that there is;
-- whether its end is open; and its holiday code.
pub record PublishedTerms (B : Type 0) : Type 0 where
  pub terms : Terms B
  pub open_end : Bool
  pub code : Option HolidayCode

-- day d is a holiday of a record's code, if it has one
abbrev pub IsHolidayOf : Holidays → Option HolidayCode → ℕ → Type 0
IsHolidayOf h None d = ⊥
IsHolidayOf h (Some code) d = IsHoliday h code d

-- The published record applies on day d: from its first to its last day, where the weekday is in its mask and the day is no holiday of
-- its code. A record without a code applies as one of this profile does. An open end is read as 31 December 2059, the last day that there
-- is: no window ends later, so in a window this is the same as no end.
pub record AppliesAsPublished {B : Type 0} (h : Holidays) (code : Option HolidayCode) (r : Terms B) (d : ℕ) : Type 0 where
  pub applies : Applies r d
  pub no_holiday : ¬ IsHolidayOf h code d

-- The records of key k that count on day d: those for which it is no holiday. Of them `Wins`, `Runs` and `IsClear` say which win, what runs
-- and whether there is a clash, so that these follow from what applies as published.
pub record CountOn {K B : Type 0} (h : Holidays) (entries : List (K × PublishedTerms B)) (k : K) (d : ℕ) (r : Terms B) : Type 0 where
  pub open_end : Bool
  pub code : Option HolidayCode
  pub listed : Contains entries (k, (record { terms = r; open_end = open_end; code = code }))
  pub no_holiday : ¬ IsHolidayOf h code d

-- day d is a clash day of key k: one from `first` to the one before `to` on which two of its winners have different bodies
abbrev pub IsClashDay : {K B : Type 0} → Holidays → List (K × PublishedTerms B) → ℕ → ℕ → K → ℕ → Type 0
IsClashDay h entries first to k d = IsClashBetween (CountOn h entries k d) first to d

-- Day d stops the records of key k with this code, whatever their letter: it is a holiday of the code, or, if clashes are dropped, a clash
-- day of the key.
abbrev pub IsStop : {K B : Type 0} → Bool → Holidays → List (K × PublishedTerms B) → ℕ → ℕ → K → Option HolidayCode → ℕ → Type 0
IsStop false h entries first to k code d = IsHolidayOf h code d
IsStop true h entries first to k code d = IsHolidayOf h code d ⊎ IsClashDay h entries first to k d
