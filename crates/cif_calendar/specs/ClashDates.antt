-- The days of a window on which winners differ.
use Rattle.std.specs.Prelude.{ℕ, ◌<◌, ◌≤◌, List, AllPairs, Contains, ◌↔◌}
use Rattle.cif_calendar.specs.{Clash.IsClash, Clash.IsClear, Terms.Records}

-- day d is one of those from `first` to the one before `to`, and has a clash
pub record IsClashBetween {B : Type 0} (records : Records B) (first to d : ℕ) : Type 0 where
  pub from : first ≤ d
  pub before : d < to
  pub clash : IsClash records d

-- The days are those of them with a clash, rising. The others are clear.
pub record AreClashDates {B : Type 0} (records : Records B) (first to : ℕ) (days : List ℕ) : Type 0 where
  pub rising : AllPairs ◌<◌ days
  pub are : (d : ℕ) → Contains days d ↔ IsClashBetween records first to d
  pub clear : (d : ℕ) → first ≤ d → d < to → ¬ Contains days d → IsClear records d
