-- The clash days of records of which some don't count on their holidays.
use Rattle.std.specs.Prelude.{◌≡◌, ◌⊎◌, ◌↔◌, ℕ, ◌<◌, ◌≤◌, List, [], ◌∷◌, Some, AllPairs, Contains, slice_get}
use Rattle.cif_calendar.specs.{Clash.IsClear, ClashDates.IsClashBetween, Terms.Records, Terms.Terms}
use Rattle.cif_feed.specs.{Holidays.IsHoliday, Published.PublishedTerms}
use Rattle.cif_feed.specs.declared.{holidays.HolidayCode.HolidayCode, holidays.Holidays.Holidays}
use Rattle.cif_feed.specs.declared.holidays.HolidayCode.TheVariants.{X, E, G}

abbrev pub code_list : List HolidayCode
code_list = X ∷ E ∷ G ∷ []

-- The days, rising, are those from `first` to the one before `to` with a clash, where each day has records of its own. The others are
-- clear.
pub record AreClashDatesOn {B : Type 0} (records : ℕ → Records B) (first to : ℕ) (days : List ℕ) : Type 0 where
  pub rising : AllPairs ◌<◌ days
  pub are : (d : ℕ) → Contains days d ↔ IsClashBetween (records d) first to d
  pub clear : (d : ℕ) → first ≤ d → d < to → ¬ Contains days d → IsClear (records d) d

-- The record is that of a member, and day d is no holiday of its code, if that is one of these.
pub record CountsAmong {A B : Type 0} (h : Holidays) (published : A → PublishedTerms B) (xs : List A) (members : List ℕ)
    (codes : List HolidayCode) (d : ℕ) (r : Terms B) : Type 0 where
  pub position : ℕ
  pub member : Contains members position
  pub entry : A
  pub at : slice_get xs position ≡ Some entry
  pub terms : (published entry).terms ≡ r
  pub no_holiday : (code : HolidayCode) → Contains codes code → (published entry).code ≡ Some code → ¬ IsHoliday h code d

-- the entry at the position has the code
pub record HasCodeAt {A B : Type 0} (published : A → PublishedTerms B) (xs : List A) (code : HolidayCode) (position : ℕ) : Type 0 where
  pub entry : A
  pub at : slice_get xs position ≡ Some entry
  pub of_code : (published entry).code ≡ Some code

-- Of the one days those of which P doesn't hold, and of the others those of which it does, rising.
pub record AreMerged (P : ℕ → Type 0) (days others all : List ℕ) : Type 0 where
  pub rising : AllPairs ◌<◌ all
  pub are : (d : ℕ) → Contains all d ↔ ((Contains days d × (¬ P d)) ⊎ (Contains others d × P d))
