-- Arithmetic of days, weekdays and weeks, and masks.
use Rattle.cif_weeks.proofs.Names.{Bool, List, RunsOn, [], ap, arith, false, length, refl, slice_get_within, suc, true, week_of, weekday_of}
use Rattle.cif_weeks.proofs.Names.{ℕ, ◌*◌, ◌+◌, ◌-◌, ◌<◌, ◌∷◌, ◌≡◌, ◌≤◌}

-- a later day is in no earlier week
pub week_of-rises : (m n : ℕ) → m ≤ n → week_of m ≤ week_of n
week_of-rises m n h = omega arith

-- a day isn't after one of a later week, nor after one of a weekday that isn't earlier in a week that isn't earlier
pub day_rises : (m n : ℕ) → week_of m ≤ week_of n → weekday_of m ≤ weekday_of n → m ≤ n
day_rises m n weeks days = omega arith

pub day_rises_week : (m n : ℕ) → week_of m < week_of n → m < n
day_rises_week m n h = omega arith

-- k weeks later, on the same weekday
pub week_later : (n k : ℕ) → week_of (n + 7 * k) ≡ week_of n + k
week_later n k = omega arith

pub weekday_later : (n k : ℕ) → weekday_of (n + 7 * k) ≡ weekday_of n
weekday_later n k = omega arith

-- the day of a weekday, not before that of n, k weeks after the week of n
pub week_of-day : (n k w : ℕ) → weekday_of n ≤ w → w < 7 → week_of ((n + 7 * k) + (w - weekday_of n)) ≡ week_of n + k
week_of-day n k w least below = omega arith

pub weekday_of-day : (n k w : ℕ) → weekday_of n ≤ w → w < 7 → weekday_of ((n + 7 * k) + (w - weekday_of n)) ≡ w
weekday_of-day n k w least below = omega arith

-- a mask of seven has no weekday from 7 on
pub RunsOn-below : (days : List Bool) (w : ℕ) → length days ≡ 7 → RunsOn days w → w < 7
RunsOn-below days w seven on = let below : w < length days = slice_get_within days w true on in omega arith

-- masks with the same weekdays are equal
pub masks_equal : (a b : List Bool) → length a ≡ length b → ((w : ℕ) → RunsOn a w → RunsOn b w)
    → ((w : ℕ) → RunsOn b w → RunsOn a w) → a ≡ b
masks_equal [] [] e forth back = refl
masks_equal [] (y ∷ b) e forth back = absurd (omega arith)
masks_equal (x ∷ a) [] e forth back = absurd (omega arith)
masks_equal (true ∷ a) (true ∷ b) e forth back =
    ap (λ v. true ∷ v) (masks_equal a b (omega arith) (λ w on. forth (suc w) on) (λ w on. back (suc w) on))
masks_equal (false ∷ a) (false ∷ b) e forth back =
    ap (λ v. false ∷ v) (masks_equal a b (omega arith) (λ w on. forth (suc w) on) (λ w on. back (suc w) on))
masks_equal (true ∷ a) (false ∷ b) e forth back = let on : RunsOn (false ∷ b) 0 = forth 0 refl in absurd (cc)
masks_equal (false ∷ a) (true ∷ b) e forth back = let on : RunsOn (false ∷ a) 0 = back 0 refl in absurd (cc)

-- the day seven days later, and a day by its week and its weekday
pub week_of-next : (n : ℕ) → week_of (n + 7) ≡ week_of n + 1
week_of-next n = omega arith

pub weekday_of-next : (n : ℕ) → weekday_of (n + 7) ≡ weekday_of n
weekday_of-next n = omega arith

pub same_day : (m n : ℕ) → week_of m ≡ week_of n → weekday_of m ≡ weekday_of n → m ≡ n
same_day m n weeks days = omega arith
