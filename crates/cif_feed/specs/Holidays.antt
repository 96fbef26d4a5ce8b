-- Holidays: for some of the holiday codes, a set of days.
use Rattle.std.specs.Prelude.{◌≡◌, ◌⊎◌, ◌↔◌, ℕ, List, [], Bool, Option, Some, None, Contains, IsTrue}
use Rattle.cif_feed.specs.HolidayDates.{IsDateOnDaysRun}
use Rattle.cif_feed.specs.declared.{holidays.HolidayCode.HolidayCode, holidays.HolidayDates.HolidayDates, holidays.Holidays.Holidays}
use Rattle.cif_feed.specs.declared.holidays.HolidayCode.TheVariants.{X, E, G}

-- what is kept of a code
abbrev pub dates_of : Holidays → HolidayCode → HolidayDates
dates_of h X = h.bank
dates_of h E = h.edinburgh
dates_of h G = h.glasgow

-- the holidays name the code
abbrev pub Names : Holidays → HolidayCode → Type 0
Names h code = IsTrue (dates_of h code).is_named

-- day d is a holiday of the code
abbrev pub IsHoliday : Holidays → HolidayCode → ℕ → Type 0
IsHoliday h code d = Contains (dates_of h code).days.items d

-- the days of the code, if there is one
abbrev pub holidays_of : Holidays → Option HolidayCode → List ℕ
holidays_of h None = []
holidays_of h (Some code) = (dates_of h code).days.items

-- day d is a holiday of the code, and its weekday is in the mask
abbrev pub IsHolidayOn : Holidays → HolidayCode → List Bool → ℕ → Type 0
IsHolidayOn h code days d = IsDateOnDaysRun (dates_of h code).days.items days d

-- The new holidays name the code too, and the days of which P holds are holidays of it. All else is as before.
pub record HasMore (old : Holidays) (code : HolidayCode) (P : ℕ → Type 0) (new : Holidays) : Type 0 where
  pub names : (other : HolidayCode) → Names new other ↔ (Names old other ⊎ (other ≡ code))
  pub days : (other : HolidayCode) (d : ℕ) → IsHoliday new other d ↔ (IsHoliday old other d ⊎ ((other ≡ code) × P d))
