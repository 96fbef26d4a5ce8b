-- The entry with the least key of two lists of positions, each in the order of its keys.
use Rattle.cif_calendar.proofs.Names.{All, AnyHasKey, AreFrom, Bool, Contains-get_or, Equal, Greater, HasKey, IsFirstOfBoth, IsRising}
use Rattle.cif_calendar.proofs.Names.{IsTotalOrder, Less, List, Ordering, Terms, arith, false, get_or, inl, inr, is_gt, is_lt, keyed}
use Rattle.cif_calendar.proofs.Names.{length, refl, subst, sym, true, ℕ, ◌<◌, ◌∙◌, ◌≡◌, ◌≤◌}
use Rattle.cif_calendar.proofs.{KeyPositions.has-key, KeyPositions.not_gt, KeyTurns.from-first, KeyTurns.from-lower}

-- the first position is one of an entry
pub leading-within : (n : ℕ) (rest : List ℕ) (i : ℕ) → All (λ i. i < n) rest → 0 < length rest → ((d : ℕ) → i ≡ get_or rest 0 d) → i < n
leading-within n rest i within some at = subst (λ p. p < n) (sym (at 0)) (within 0 0 some)

-- the first position has the key of the entry there
pub leading : {E K B : Type 0} (key : E → K) (terms : E → Terms B) (es : List E) (rest : List ℕ) (i : ℕ) (e : E) →
    All (λ i. i < length es) rest → 0 < length rest → ((d : ℕ) → i ≡ get_or rest 0 d) → e ≡ get_or es i e →
    HasKey (keyed key terms es) (get_or rest 0 0) (key e)
leading key terms es rest i e within some at is =
    subst (λ p. HasKey (keyed key terms es) p (key e)) (at 0)
    (has-key key terms es i e (leading-within (length es) rest i within some at) is)

lt-not_gt : (o : Ordering) → is_lt o ≡ true → is_gt o ≡ false
lt-not_gt Less e = refl
lt-not_gt Equal e = cc
lt-not_gt Greater e = cc

module _ {K B : Type 0} (cmp : K → K → Ordering) (total : IsTotalOrder cmp) (xs : List (K × Terms B)) (l : List ℕ)
    (up : IsRising cmp xs l) (ys : List (K × Terms B)) (r : List ℕ) (vp : IsRising cmp ys r) where
  any-first : (es : List (K × Terms B)) (rest : List ℕ) (k : K) → 0 < length rest → HasKey es (get_or rest 0 0) k → AnyHasKey es rest k
  any-first es rest k some leads = record { position = get_or rest 0 0; member = Contains-get_or rest 0 0 some; has = leads }

  none-from : (es : List (K × Terms B)) (rest : List ℕ) (k : K) → length rest ≤ 0 → AreFrom cmp es rest k
  none-from es rest k none i d below = absurd (omega (arith, none, below))

  module _ (a : K) (some : 0 < length l) (leads : HasKey xs (get_or l 0 0) a) where
    pub left-alone : length r ≤ 0 → IsFirstOfBoth cmp xs l ys r a
    left-alone none = record {
      has = inl (any-first xs l a some leads);
      left_from = from-first cmp xs l up total a leads;
      right_from = none-from ys r a none;
    }

  module _ (b : K) (some : 0 < length r) (leads : HasKey ys (get_or r 0 0) b) where
    pub right-alone : length l ≤ 0 → IsFirstOfBoth cmp xs l ys r b
    right-alone none = record {
      has = inr (any-first ys r b some leads);
      left_from = none-from xs l b none;
      right_from = from-first cmp ys r vp total b leads;
    }

  module _ (same : (j k : K) → cmp j k ≡ Equal → j ≡ k) (a : K) (some_l : 0 < length l) (leads_l : HasKey xs (get_or l 0 0) a) (b : K)
      (some_r : 0 < length r) (leads_r : HasKey ys (get_or r 0 0) b) where
    right-first : is_lt (cmp b a) ≡ true → IsFirstOfBoth cmp xs l ys r b
    right-first less = record {
      has = inr (any-first ys r b some_r leads_r);
      left_from = from-lower cmp total same xs l b a (lt-not_gt (cmp b a) less) (from-first cmp xs l up total a leads_l);
      right_from = from-first cmp ys r vp total b leads_r;
    }

    left-first : is_lt (cmp b a) ≡ false → IsFirstOfBoth cmp xs l ys r a
    left-first not = record {
      has = inl (any-first xs l a some_l leads_l);
      left_from = from-first cmp xs l up total a leads_l;
      right_from = from-lower cmp total same ys r a b (subst (λ o. is_gt o ≡ false) (sym (total.antisymm a b)) (not_gt (cmp b a)
          not)) (from-first cmp ys r vp total b leads_r);
    }

    -- the lesser key is the first
    pub lesser-first : (less : Bool) → less ≡ is_lt (cmp b a) →
        (less ≡ true → IsFirstOfBoth cmp xs l ys r b) × (less ≡ false → IsFirstOfBoth cmp xs l ys r a)
    lesser-first less is = (λ yes. right-first (sym is ∙ yes), λ no. left-first (sym is ∙ no))
