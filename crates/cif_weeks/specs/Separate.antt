-- Two records with one body are not parts of one record.
use Rattle.std.specs.Prelude.{◌≡◌, ◌≢◌, ◌⊎◌, ℕ, ◌+◌, ◌<◌, List, Bool}
use Rattle.cif_columns.specs.Day.{week_of, weekday_of}
use Rattle.cif_weeks.specs.declared.{form.Form.Form, form.Form.TheVariants.One, form.Form.TheVariants.Three, form.Form.TheVariants.Two}
use Rattle.cif_weeks.specs.{Applies.Applies, Applies.IsInRange, Applies.IsWeekOf, Exact.IsExact, Permanent.Permanent, Window.IsWithin}
use Rattle.cif_weeks.specs.Window.{Window}

-- one of the two records applies on day n, or both do
abbrev pub EitherApplies : {B : Type 0} → Permanent B → Permanent B → ℕ → Type 0
EitherApplies r s n = Applies r n ⊎ Applies s n

-- exactly one of the two holds
abbrev pub ExactlyOne : Type 0 → Type 0 → Type 0
ExactlyOne p q = (p × ¬ q) ⊎ ((¬ p) × q)

-- Days m and n are those of one weekday in r's last week and in s's first week. Both lie in the window, and on exactly
-- one of these two days r or s applies.
pub record ChangeBetween {B : Type 0} (window : Window) (r s : Permanent B) (m n : ℕ) : Type 0 where
  pub one_weekday : weekday_of m ≡ weekday_of n
  pub in_last_week : week_of m ≡ week_of r.last
  pub in_first_week : week_of n ≡ week_of s.first
  pub within : IsWithin window m
  pub next_within : IsWithin window n
  pub on_one : ExactlyOne (EitherApplies r s m) (EitherApplies r s n)

-- Why s doesn't go on where r ends. Form 1: their masks differ. Form 2: there is a change on some weekday. Form 3: from r's first day to
-- s's no dates and mask are exact for `on`, the days on which their body runs; so r is as long as can be.
abbrev pub Change : {B : Type 0} → Form → Window → (ℕ → Type 0) → Permanent B → Permanent B → Type 0
Change One window on r s = r.days ≢ s.days
Change Two window on r s = (m n : ℕ) × ChangeBetween window r s m n
Change Three window on r s = (days : List Bool) → ¬ IsExact on r.first s.first days

-- The records don't meet. Forms 1 and 2: no week is one of both. Form 3: no day is between the first and the last of both.
abbrev pub AreApart : {B : Type 0} → Form → Permanent B → Permanent B → Type 0
AreApart One r s = (week : ℕ) → IsWeekOf r week → ¬ IsWeekOf s week
AreApart Two r s = (week : ℕ) → IsWeekOf r week → ¬ IsWeekOf s week
AreApart Three r s = (n : ℕ) → IsInRange r n → ¬ IsInRange s n

-- The records have to be told apart by a change. Forms 1 and 2: the first week of s directly follows the last week of r. Form 3: s comes
-- after r.
abbrev pub Follows : {B : Type 0} → Form → Permanent B → Permanent B → Type 0
Follows One r s = week_of s.first ≡ week_of r.last + 1
Follows Two r s = week_of s.first ≡ week_of r.last + 1
Follows Three r s = r.last < s.first

-- The records don't meet, and where one follows the other, there is a change.
pub record AreSeparate {B : Type 0} (form : Form) (window : Window) (on : ℕ → Type 0) (r s : Permanent B) : Type 0 where
  pub apart : AreApart form r s
  pub follows : Follows form r s → Change form window on r s
  pub precedes : Follows form s r → Change form window on s r
