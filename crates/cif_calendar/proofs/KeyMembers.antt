-- The positions of one key, one entry after another.
use Rattle.cif_calendar.proofs.Names.{All, All-push, ArePositionsOf, Contains, Contains-append_left, Contains-push, Contains-push_cases}
use Rattle.cif_calendar.proofs.Names.{HasKey, List, Some, Terms, [], ap, arith, cases_lt, length, same_Some, slice_get, slice_get_within}
use Rattle.cif_calendar.proofs.Names.{subst, sym, ℕ, ⊎_elim, ◌++◌, ◌+◌, ◌<◌, ◌∙◌, ◌∷◌, ◌≡◌, ◌≤◌}
use Rattle.cif_calendar.proofs.RisingLists.{Contains-none}

-- the positions before n of the records of key k
pub record ArePositionsBefore {K B : Type 0} (es : List (K × Terms B)) (k : K) (n : ℕ) (positions : List ℕ) : Type 0 where
  pub found : (i : ℕ) → Contains positions i → (r : Terms B) × (slice_get es i ≡ Some (k, r))
  pub all : (i : ℕ) (r : Terms B) → i < n → slice_get es i ≡ Some (k, r) → Contains positions i

module _ {K B : Type 0} (es : List (K × Terms B)) (k : K) where
  pub before-none : ArePositionsBefore es k 0 []
  before-none = record { found = λ i has. absurd (Contains-none i has); all = λ i r below at. absurd (omega arith) }

  pub before-all : (n : ℕ) (positions : List ℕ) → length es ≤ n → ArePositionsBefore es k n positions → ArePositionsOf es k positions
  before-all n positions over p = record {
    found = p.found;
    all = λ i r at. p.all i r (let within : i < length es = slice_get_within es i (k, r) at in omega arith) at;
  }

  module _ (n : ℕ) (positions : List ℕ) (p : ArePositionsBefore es k n positions) (j : K) (has : HasKey es n j) where
    -- an entry with the key
    pub before-more : j ≡ k → ArePositionsBefore es k (n + 1) (positions ++ n ∷ [])
    before-more same = record {
      found = λ i in'. ⊎_elim
          (λ old. p.found i old)
          (λ is. (has.terms, subst (λ q. slice_get es q ≡ Some (k, has.terms)) is (has.at ∙ ap (λ q. Some (q, has.terms)) same)))
          (Contains-push_cases positions n i in');
      all = λ i r below at. ⊎_elim
          (λ old. Contains-append_left positions (n ∷ []) i (p.all i r old at))
          (λ from. subst (Contains (positions ++ n ∷ [])) (let same : n ≡ i = omega arith in same) (Contains-push positions n))
          (cases_lt i n);
    }

    -- one with another key
    pub before-other : (j ≡ k → ⊥) → ArePositionsBefore es k (n + 1) positions
    before-other apart = record {
      found = p.found;
      all = λ i r below at. ⊎_elim
          (λ old. p.all i r old at)
          (λ from.
          let same : n ≡ i = omega arith in
          let other : ◌≡◌ {A = K × Terms B} (j, has.terms) (k, r) =
          same_Some (j, has.terms) (k, r) (sym has.at ∙ ap (slice_get es) same ∙ at) in
          absurd (apart (ap (λ (e : K × Terms B). e.0) other)))
          (cases_lt i n);
    }

pub within-more : (n m : ℕ) (positions : List ℕ) → n < m → All (λ i. i < m) positions → All (λ i. i < m) (positions ++ n ∷ [])
within-more n m positions below all = All-push (λ i. i < m) positions n all below
