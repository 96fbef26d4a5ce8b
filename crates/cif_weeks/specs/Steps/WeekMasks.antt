-- Steps to the runs: the weekdays of a body week by week. No public clause cites them.
use Rattle.std.specs.Prelude.{◌≡◌, ℕ, ◌+◌, ◌<◌, ◌≤◌, Bool, List, length, ◌↔◌}
use Rattle.cif_columns.specs.{Day.week_of, Day.weekday_of, DaysRun.RunsOn}
use Rattle.cif_weeks.specs.declared.{form.Form.Form, form.Form.TheVariants.One, form.Form.TheVariants.Three, form.Form.TheVariants.Two}
use Rattle.cif_weeks.specs.{Separate.ExactlyOne, Window.IsWithin, Window.Window}

-- the mask of a set of days in a week has the weekdays of those days
pub record IsMask (on : ℕ → Type 0) (week : ℕ) (mask : List Bool) : Type 0 where
  pub seven : length mask ≡ 7
  pub shows : (n : ℕ) → week_of n ≡ week → on n → RunsOn mask (weekday_of n)
  pub only : (w : ℕ) → RunsOn mask w → (n : ℕ) × (week_of n ≡ week) × (weekday_of n ≡ w) × on n

-- A week and the next have to agree on this weekday: in form 1 on each, and in form 2 on those whose days in both weeks lie
-- in the window. Form 3 doesn't join weeks.
abbrev pub Counts : Form → Window → ℕ → ℕ → Type 0
Counts One window week w = Unit {0}
Counts Three window week w = Unit {0}
Counts Two window week w = (n : ℕ) × (week_of n ≡ week) × (weekday_of n ≡ w) × IsWithin window n × IsWithin window (n + 7)

-- the masks of a week and the next agree, or differ, where they have to agree
abbrev pub MasksAgree : Form → Window → ℕ → List Bool → List Bool → Type 0
MasksAgree form window week this next = (w : ℕ) → w < 7 → Counts form window week w → RunsOn this w ↔ RunsOn next w

abbrev pub MasksDiffer : Form → Window → ℕ → List Bool → List Bool → Type 0
MasksDiffer form window week this next = (w : ℕ) × (w < 7) × Counts form window week w × ExactlyOne (RunsOn this w) (RunsOn next w)

-- day n is the last of the week whose weekday is in the mask
pub record IsLastDay (week : ℕ) (mask : List Bool) (n : ℕ) : Type 0 where
  pub in_week : week_of n ≡ week
  pub runs : RunsOn mask (weekday_of n)
  pub latest : (m : ℕ) → week_of m ≡ week → RunsOn mask (weekday_of m) → m ≤ n
