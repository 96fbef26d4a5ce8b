-- Steps to the runs: records that grow week by week. No public clause cites them.
use Rattle.std.specs.Prelude.{◌≡◌, ◌≢◌, ℕ, ◌+◌, ◌<◌, ◌≤◌, List, Bool, length}
use Rattle.cif_columns.specs.{Day.week_of, Day.weekday_of, DaysRun.RunsOn}
use Rattle.cif_weeks.specs.{Permanent.Permanent, Separate.Change, Separate.ExactlyOne, Steps.WeekMasks.IsMask, Window.IsWithin}
use Rattle.cif_weeks.specs.{Exact.IsExact, Window.Window, declared.form.Form.Form, declared.form.Form.TheVariants.One}
use Rattle.cif_weeks.specs.declared.form.Form.TheVariants.{Three, Two}

-- form 2: on the days of a week that are in the window, the mask has just the weekdays on which the record's body runs
pub record FitsWithin (window : Window) (on : ℕ → Type 0) (days : List Bool) (week : ℕ) : Type 0 where
  pub shows : (n : ℕ) → week_of n ≡ week → on n → RunsOn days (weekday_of n)
  pub full : (n : ℕ) → week_of n ≡ week → IsWithin window n → RunsOn days (weekday_of n) → on n

-- the mask is right for a week; form 3 doesn't go by weeks
abbrev pub Fits : Form → Window → (ℕ → Type 0) → List Bool → ℕ → Type 0
Fits One window on days week = IsMask on week days
Fits Two window on days week = FitsWithin window on days week
Fits Three window on days week = ⊥

-- A record's dates and mask as far as it has grown: the mask is right for each of its weeks, and it begins and ends where its body does in
-- the first and the last of them.
pub record HaveGrown (form : Form) (window : Window) (on : ℕ → Type 0) (first last : ℕ) (days : List Bool) : Type 0 where
  pub seven : length days ≡ 7
  pub in_order : week_of first ≤ week_of last
  pub first_runs : on first
  pub last_runs : on last
  pub earliest : (n : ℕ) → week_of n ≡ week_of first → on n → first ≤ n
  pub latest : (n : ℕ) → week_of n ≡ week_of last → on n → n ≤ last
  pub used : (w : ℕ) → RunsOn days w →
      (n : ℕ) × (weekday_of n ≡ w) × (week_of first ≤ week_of n) × (week_of n ≤ week_of last) × on n
  pub fits : (week : ℕ) → week_of first ≤ week → week ≤ week_of last → Fits form window on days week

-- the form joins weeks
abbrev pub IsByWeeks : Form → Type 0
IsByWeeks One = Unit {0}
IsByWeeks Two = Unit {0}
IsByWeeks Three = ⊥

abbrev pub IsGrown : {B : Type 0} → Form → Window → (ℕ → Type 0) → Permanent B → Type 0
IsGrown form window on r = HaveGrown form window on r.first r.last r.days

-- Dates and a mask of the form: they have grown, or in form 3 they are exact.
abbrev pub AreMade : Form → Window → (ℕ → Type 0) → ℕ → ℕ → List Bool → Type 0
AreMade One window on first last days = HaveGrown One window on first last days
AreMade Two window on first last days = HaveGrown Two window on first last days
AreMade Three window on first last days = IsExact on first last days

abbrev pub IsMade : {B : Type 0} → Form → Window → (ℕ → Type 0) → Permanent B → Type 0
IsMade form window on r = AreMade form window on r.first r.last r.days

-- form 2: a day of a week and the day seven later are in the window, and the body runs on just one of them
pub record TurnsOn (window : Window) (on : ℕ → Type 0) (week n : ℕ) : Type 0 where
  pub in_week : week_of n ≡ week
  pub within : IsWithin window n
  pub next_within : IsWithin window (n + 7)
  pub on_one : ExactlyOne (on n) (on (n + 7))

-- the week after these dates' last doesn't join them, or a record's
abbrev pub BreaksAfter : Form → Window → (ℕ → Type 0) → ℕ → List Bool → Type 0
BreaksAfter One window on last days = (next : List Bool) → IsMask on (week_of last + 1) next → days ≢ next
BreaksAfter Two window on last days = (n : ℕ) × TurnsOn window on (week_of last) n
BreaksAfter Three window on last days = ⊥

abbrev pub Breaks : {B : Type 0} → Form → Window → (ℕ → Type 0) → Permanent B → Type 0
Breaks form window on r = BreaksAfter form window on r.last r.days

-- r ends in a week before that in which s begins, and where that is the very next week, there is a change between them
pub record IsWeeksFrom {B : Type 0} (form : Form) (window : Window) (on : ℕ → Type 0) (r s : Permanent B) : Type 0 where
  pub before : week_of r.last < week_of s.first
  pub change : week_of s.first ≡ week_of r.last + 1 → Change form window on r s

-- r ends before s begins, and no dates and mask from r's first day to s's are exact
pub record IsLongest {B : Type 0} (on : ℕ → Type 0) (r s : Permanent B) : Type 0 where
  pub before : r.last < s.first
  pub longest : (days : List Bool) → ¬ IsExact on r.first s.first days

abbrev pub IsApartFrom : {B : Type 0} → Form → Window → (ℕ → Type 0) → Permanent B → Permanent B → Type 0
IsApartFrom One window on r s = IsWeeksFrom One window on r s
IsApartFrom Two window on r s = IsWeeksFrom Two window on r s
IsApartFrom Three window on r s = IsLongest on r s
