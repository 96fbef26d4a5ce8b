-- What holds of the column with one number in each fifth of a line, for each of sixteen numbers, holds of each column.
use Rattle.cif_columns.proofs.Names.{Bool, and_from, and_parts, arith, below_more, cases_lt, inl, inr, subst, true, ℕ, ◌&&◌, ◌+◌, ◌-◌, ◌<◌}
use Rattle.cif_columns.proofs.Names.{◌↔◌, ◌≡◌, ◌≤◌, ◌⊎◌}

pub record InFifths (P : ℕ → Type 0) (k : ℕ) : Type 0 where
  pub first : P k
  pub second : P (16 + k)
  pub third : P (32 + k)
  pub fourth : P (48 + k)
  pub fifth : P (64 + k)

-- what holds of sixteen columns from this one on
pub from_column : (P : ℕ → Type 0) (from : ℕ) → ((k : ℕ) → k < 16 → P (from + k)) → (k : ℕ) → from ≤ k → k < from + 16 → P k
from_column P from h k low high =
    let same : from + (k - from) ≡ k = omega (arith, low) in
    subst P same (h (k - from) (omega (arith, low, high)))

pub each_of_fifths : (P : ℕ → Type 0) → ((k : ℕ) → k < 16 → InFifths P k) → (k : ℕ) → k < 80 → P k
each_of_fifths P h k lt = at (cases_lt k 16) (cases_lt k 32) (cases_lt k 48) (cases_lt k 64)
  where
    at : (k < 16) ⊎ (16 ≤ k) → (k < 32) ⊎ (32 ≤ k) → (k < 48) ⊎ (48 ≤ k) → (k < 64) ⊎ (64 ≤ k) → P k
    at (inl a) b c d = (h k a).first
    at (inr z) (inl a) c d = from_column P 16 (λ n l. (h n l).second) k z (omega (arith, a))
    at (inr y) (inr z) (inl a) d = from_column P 32 (λ n l. (h n l).third) k z (omega (arith, a))
    at (inr x) (inr y) (inr z) (inl a) = from_column P 48 (λ n l. (h n l).fourth) k z (omega (arith, a))
    at (inr w) (inr x) (inr y) (inr z) = from_column P 64 (λ n l. (h n l).fifth) k z (omega (arith, lt))

-- five tests that all have to answer true
pub all_five : (a b c d e : Bool) (P : ℕ → Type 0) (k : ℕ) → ((a ≡ true) ↔ P k) → ((b ≡ true) ↔ P (16 + k)) → ((c ≡ true) ↔ P (32 + k))
    → ((d ≡ true) ↔ P (48 + k)) → ((e ≡ true) ↔ P (64 + k)) → (a && b && c && d && e ≡ true) ↔ InFifths P k
all_five a b c d e P k p q r s u = (
  (λ yes.
      let y4 = and_parts (a && b && c && d) e yes in
      let y3 = and_parts (a && b && c) d y4.0 in
      let y2 = and_parts (a && b) c y3.0 in
      let y1 = and_parts a b y2.0 in
      record { first = p.0 y1.0; second = q.0 y1.1; third = r.0 y2.1; fourth = s.0 y3.1; fifth = u.0 y4.1 }),
  (λ h.
      and_from (a && b && c && d) e
      (and_from (a && b && c) d
      (and_from (a && b) c (and_from a b (p.1 h.first) (q.1 h.second)) (r.1 h.third)) (s.1 h.fourth)) (u.1 h.fifth)),
)

-- the next step of a loop that has found all true so far
pub all_more : (so_far this : Bool) (P : ℕ → Type 0) (i : ℕ) → ((so_far ≡ true) ↔ ((k : ℕ) → k < i → P k)) → ((this ≡ true) ↔ P i)
    → (so_far && this ≡ true) ↔ ((k : ℕ) → k < i + 1 → P k)
all_more so_far this P i before here = (
  (λ yes.
      let y = and_parts so_far this yes in
      below_more P i (before.0 y.0) (here.0 y.1)),
  (λ all. and_from so_far this (before.1 (λ k lt. all k (omega (arith, lt)))) (here.1 (all i (omega arith)))),
)
