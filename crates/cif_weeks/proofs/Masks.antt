-- Masks of a set of days in a week, and the last day of a week that is in a mask.
use Rattle.cif_weeks.proofs.Names.{Bool, IsLastDay, IsMask, List, RunsOn, subst, sym, week_of, weekday_of, ℕ, ◌∙◌, ◌≡◌, ◌≤◌}
use Rattle.cif_weeks.proofs.WeekDays.{masks_equal, same_day}

module _ (on : ℕ → Type 0) (week : ℕ) where
  -- each day of its week that is in the mask is one of the days
  pub mask_runs : (mask : List Bool) (n : ℕ) → IsMask on week mask → week_of n ≡ week → RunsOn mask (weekday_of n) → on n
  mask_runs mask n m at has =
      let (k, week_k, day_k, runs) = m.only (weekday_of n) has in subst on (same_day k n (week_k ∙ sym at) day_k) runs

  has_weekdays : (x y : List Bool) → IsMask on week x → IsMask on week y → (w : ℕ) → RunsOn x w → RunsOn y w
  has_weekdays x y mx my w has = let (n, at, day, runs) = mx.only w has in subst (λ v. RunsOn y v) day (my.shows n at runs)

  -- the days have one mask in a week
  pub one_mask : (x y : List Bool) → IsMask on week x → IsMask on week y → x ≡ y
  one_mask x y mx my = masks_equal x y (mx.seven ∙ sym my.seven) (has_weekdays x y mx my) (has_weekdays y x my mx)

  -- the last day of the mask is the last of the days in the week
  pub last_runs : (mask : List Bool) (day : ℕ) → IsMask on week mask → IsLastDay week mask day → on day
  last_runs mask day m l = mask_runs mask day m l.in_week l.runs

  pub last_latest : (mask : List Bool) (day n : ℕ) → IsMask on week mask → IsLastDay week mask day → week_of n ≡ week → on n → n ≤ day
  last_latest mask day n m l at runs = l.latest n at (m.shows n at runs)

-- of other days it is the mask too, if those of the week are the same
pub mask-over : {on other : ℕ → Type 0} (week : ℕ) (days : List Bool) → ((n : ℕ) → week_of n ≡ week → on n → other n)
    → ((n : ℕ) → week_of n ≡ week → other n → on n) → IsMask on week days → IsMask other week days
mask-over week days forth back m = record {
  seven = m.seven;
  shows = λ n at h. m.shows n at (back n at h);
  only = λ w runs. let (n, at, day, h) = m.only w runs in (n, at, day, forth n at h);
}
