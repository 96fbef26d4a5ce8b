-- The dates and the mask of a record fit each other and the window.
use Rattle.std.specs.Prelude.{◌≡◌, ℕ, ◌≤◌, Bool, List, length}
use Rattle.cif_columns.specs.{Day.week_of, Day.weekday_of, DaysRun.IsFirstOf, DaysRun.IsLastOf, DaysRun.RunsOn}
use Rattle.cif_weeks.specs.declared.{form.Form.Form, form.Form.TheVariants.One, form.Form.TheVariants.Three, form.Form.TheVariants.Two}
use Rattle.cif_weeks.specs.{Applies.Applies, Permanent.Permanent, Window.IsWithin, Window.Window}

-- Form 1: the first day isn't after the last, both lie in the window, and of the weekdays in the mask the first day
-- has the least and the last day the greatest. So the mask isn't empty.
pub record IsAlignedOne {B : Type 0} (window : Window) (r : Permanent B) : Type 0 where
  pub seven : length r.days ≡ 7
  pub in_order : r.first ≤ r.last
  pub first_within : IsWithin window r.first
  pub last_within : IsWithin window r.last
  pub least : IsFirstOf r.days (weekday_of r.first)
  pub greatest : IsLastOf r.days (weekday_of r.last)

-- day n is a day of the window in this week, and its weekday is in the mask
pub record IsMaskDay (window : Window) (days : List Bool) (week n : ℕ) : Type 0 where
  pub within : IsWithin window n
  pub in_week : week_of n ≡ week
  pub in_mask : RunsOn days (weekday_of n)

-- Form 2: the first day is the earliest day of the window in its week whose weekday is in the mask, the last day is the
-- latest such day in its week, and each weekday in the mask is that of a day on which the record applies.
pub record IsAlignedTwo {B : Type 0} (window : Window) (r : Permanent B) : Type 0 where
  pub seven : length r.days ≡ 7
  pub first : IsMaskDay window r.days (week_of r.first) r.first
  pub earliest : (n : ℕ) → IsMaskDay window r.days (week_of r.first) n → r.first ≤ n
  pub last : IsMaskDay window r.days (week_of r.last) r.last
  pub latest : (n : ℕ) → IsMaskDay window r.days (week_of r.last) n → n ≤ r.last
  pub used : (weekday : ℕ) → RunsOn r.days weekday → (n : ℕ) × (weekday_of n ≡ weekday) × Applies r n

-- Form 3: the record applies on its first and its last day, which lie in the window, and each weekday in the mask is that of a day on
-- which the record applies.
pub record IsAlignedThree {B : Type 0} (window : Window) (r : Permanent B) : Type 0 where
  pub seven : length r.days ≡ 7
  pub on_first : Applies r r.first
  pub on_last : Applies r r.last
  pub first_within : IsWithin window r.first
  pub last_within : IsWithin window r.last
  pub used : (weekday : ℕ) → RunsOn r.days weekday → (n : ℕ) × (weekday_of n ≡ weekday) × Applies r n

-- aligned as the form asks
abbrev pub IsAligned : {B : Type 0} → Form → Window → Permanent B → Type 0
IsAligned One window r = IsAlignedOne window r
IsAligned Two window r = IsAlignedTwo window r
IsAligned Three window r = IsAlignedThree window r
