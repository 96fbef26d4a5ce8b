-- The window of the examples, from day 3, a Monday, to day 5, and a record of it whose mask has Monday, Wednesday and perhaps Tuesday.
use Rattle.std.proofs.Common.{Bool, List, Some, [], arith, false, inl, inr, refl, slice_get, subst, suc, sym, true, zero, ℕ, ⊎_elim, ◌<◌}
use Rattle.std.proofs.Common.{◌∷◌, ◌≡◌, ◌≤◌, ◌⊎◌}
use Rattle.cif_columns.specs.{Day.weekday_of, DaysRun.RunsOn}
use Rattle.cif_feed.proofs.Names.{cases_lt}
use Rattle.cif_weeks.specs.{Aligned.IsAlignedTwo, Applies.Applies, Permanent.Permanent, Window.Window}

abbrev pub window : Window
window = record { first = 3; last = 5 }

-- a day of the window is one of three
pub one-of : (P : ℕ → Type 0) → P 3 → P 4 → P 5 → (d : ℕ) → 3 ≤ d → d ≤ 5 → P d
one-of P a b c d from upto = ⊎_elim
    (λ (is : d ≡ 3). subst P (sym is) a)
    (λ rest. ⊎_elim (λ (is : d ≡ 4). subst P (sym is) b) (λ (is : d ≡ 5). subst P (sym is) c) rest)
    (split d from upto)
  where
    split : (d : ℕ) → 3 ≤ d → d ≤ 5 → (d ≡ 3) ⊎ ((d ≡ 4) ⊎ (d ≡ 5))
    split d from upto = ⊎_elim
        (λ (below : d < 4). inl (omega arith))
        (λ (more : 4 ≤ d). inr (⊎_elim (λ (below : d < 5). inl (omega arith)) (λ (last : 5 ≤ d). inr (omega arith)) (cases_lt d 5)))
        (cases_lt d 4)

-- the mask
abbrev pub days-with : Bool → List Bool
days-with second = true ∷ second ∷ true ∷ false ∷ false ∷ false ∷ false ∷ []

abbrev pub three-days : List Bool
three-days = days-with true

abbrev pub two-days : List Bool
two-days = days-with false

module _ {B : Type 0} (second : Bool) (body : B) where
  abbrev pub permanent : Permanent B
  permanent = record { first = 3; last = 5; days = days-with second; body = body }

  on : (d : ℕ) → 3 ≤ d → d ≤ 5 → RunsOn (days-with second) (weekday_of d) → Applies permanent d
  on d from upto runs = record { begun = from; unfinished = upto; on_weekday = runs }

  used : (weekday : ℕ) → RunsOn (days-with second) weekday → (n : ℕ) × (weekday_of n ≡ weekday) × Applies permanent n
  used zero runs = (3, refl, on 3 (omega arith) (omega arith) runs)
  used (suc zero) runs = (4, refl, on 4 (omega arith) (omega arith) runs)
  used (suc (suc zero)) runs = (5, refl, on 5 (omega arith) (omega arith) runs)
  used (suc (suc (suc w))) runs = absurd (never w runs)
    where
      never : (w : ℕ) → slice_get (false ∷ false ∷ false ∷ false ∷ []) w ≡ Some true → ⊥
      never zero is = cc
      never (suc zero) is = cc
      never (suc (suc zero)) is = cc
      never (suc (suc (suc zero))) is = cc
      never (suc (suc (suc (suc w)))) is = cc

  pub aligned : IsAlignedTwo window permanent
  aligned = record {
    seven = refl;
    first = record { within = record { from = omega arith; upto = omega arith }; in_week = refl; in_mask = refl };
    earliest = λ n day. day.within.from;
    last = record { within = record { from = omega arith; upto = omega arith }; in_week = refl; in_mask = refl };
    latest = λ n day. day.within.upto;
    used = used;
  }
