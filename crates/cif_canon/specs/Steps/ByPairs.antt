-- Records by pairs, one step after another. No public clause cites them.
use Rattle.std.specs.Prelude.{◌≡◌, ℕ, ◌<◌, List, ◌∷◌, Option, None, Some, drop, length}
use Rattle.std.specs.declared.cmp.Ordering.{Ordering}
use Rattle.cif_calendar.specs.Terms.{Terms}
use Rattle.cif_weeks.specs.{Permanent.Permanent, declared.form.Run.Run}
use Rattle.cif_canon.specs.{Pairs.Listed, Pairs.by_pairs, Steps.Sides.sided_records, declared.listed_differences.Sided.Sided}

-- the runs that are left behind a record with or without a partner
abbrev pub left_behind : {A : Type 0} → Option A → List (Sided Run) → List (Sided Run)
left_behind None later = later
left_behind (Some a) later = drop 1 later

-- before the records of the later runs this one is listed with this partner, and then those that are left
abbrev pub IsListedFirst : {K B : Type 0} → (K → K → Ordering) → List (K × Terms B) → List (K × Terms B) → Sided (K × Permanent B)
    → Option (K × Permanent B) → List (Sided Run) → Type 0
IsListedFirst cmp xs ys s partner later =
    by_pairs cmp (s ∷ sided_records xs ys later) ≡ (s, partner) ∷ by_pairs cmp (sided_records xs ys (left_behind partner later))

-- This is listed first of the runs, and these are left.
pub record IsFirstListed {K B : Type 0} (cmp : K → K → Ordering) (xs ys : List (K × Terms B)) (runs left : List (Sided Run))
    (item : Listed (K × Permanent B)) : Type 0 where
  pub first : by_pairs cmp (sided_records xs ys runs) ≡ item ∷ by_pairs cmp (sided_records xs ys left)
  pub count : ℕ
  pub behind : left ≡ drop count runs
  pub fewer : length left < length runs
