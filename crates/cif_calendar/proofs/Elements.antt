-- The elements of a list with one more in front.
use Rattle.cif_calendar.proofs.Names.{Contains, List, arith, inl, inr, length, refl, suc, zero, ◌<◌, ◌∷◌, ◌≡◌, ◌⊎◌}

module _ {X : Type 0} (y : X) (ys : List X) where
  pub Contains-first : Contains (y ∷ ys) y
  Contains-first = (zero, omega arith, refl)

  pub Contains-rest : (x : X) → Contains ys x → Contains (y ∷ ys) x
  Contains-rest x (k, below, is) = (suc k, (let h : suc k < suc (length ys) = omega arith in h), is)

  -- an element is the first or one of the rest
  pub Contains-cases : (x : X) → Contains (y ∷ ys) x → (y ≡ x) ⊎ Contains ys x
  Contains-cases x (zero, below, is) = inl is
  Contains-cases x (suc k, below, is) = inr (k, (let h : k < length ys = omega arith in h), is)
