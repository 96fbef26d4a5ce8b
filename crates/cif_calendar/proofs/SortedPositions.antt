-- Positions that are sorted by what stands for the keys of their entries rise.
use Rattle.cif_calendar.proofs.Names.{All, All-permutation, All-push, All-same, AreAllByKey, AreRanked, Bool, Contains}
use Rattle.cif_calendar.proofs.Names.{Contains-permutation, HasKey, IsPermutation, IsPermutation-map, IsRising, IsSortedBy, IsTotalOrder}
use Rattle.cif_calendar.proofs.Names.{List, Ordering, Terms, [], ap, arith, get_or-map, is_gt, is_lt, length, length-map, map, map-append}
use Rattle.cif_calendar.proofs.Names.{range_with_len, ranks_by, sorted_far, subst, suc, sym, zero, ℕ, ◌++◌, ◌+◌, ◌<◌, ◌∙◌, ◌∷◌, ◌≡◌, ◌≤◌}
use Rattle.cif_calendar.proofs.KeyPositions.{not_gt, range-whole, range-within}

range-more : (a n b : ℕ) → a + n ≡ b → range_with_len a (n + 1) ≡ range_with_len a n ++ b ∷ []
range-more a zero b is = ap (λ i. i ∷ []) (omega arith)
range-more a (suc n) b is =
    let e : suc n + 1 ≡ suc (n + 1) = omega arith in
    rw e (ap (λ l. a ∷ l) (range-more (a + 1) n b (omega arith)))

abbrev pub is_before : {R : Type 0} → (R → R → Ordering) → R × ℕ → R × ℕ → Bool
is_before cmp p q = is_lt (cmp p.0 q.0)

module _ {K B R : Type 0} (stands_for : R → K → Type 0) (entries : List (K × Terms B)) where
  -- the first of the pair stands for the key of the entry at the second
  abbrev Stands : R × ℕ → Type 0
  Stands p = (k : K) → HasKey entries p.1 k → stands_for p.0 k

  pub ranked-more : (n : ℕ) (ranked : List (R × ℕ)) (r : R) → AreRanked stands_for entries n ranked
      → ((k : K) → HasKey entries n k → stands_for r k) → AreRanked stands_for entries (n + 1) (ranked ++ (r, n) ∷ [])
  ranked-more n ranked r h stands = record {
    positions = map-append (λ (p : R × ℕ). p.1) ranked ((r, n) ∷ []) ∙ ap (λ l. l ++ n ∷ []) h.positions ∙ sym
        (range-more 0 n n (omega arith));
    ranks = All-push Stands ranked (r, n) h.ranks stands;
  }

  module _ (rank_cmp : R → R → Ordering) (cmp : K → K → Ordering) (rank_total : IsTotalOrder rank_cmp) (total : IsTotalOrder cmp)
      (same_order : (r s : R) (a b : K) → stands_for r a → stands_for s b → rank_cmp r s ≡ cmp a b) where
    -- of two pairs, the later is not before the earlier
    in-order : (sorted : List (R × ℕ)) (x : R × ℕ) → All Stands sorted
        → IsSortedBy (is_before rank_cmp) sorted → IsRising cmp entries (map (λ p. p.1) sorted)
    in-order sorted x ranks up = record {
      pairs = λ i j d lt below a b p q.
          let long : length (map (λ (p : R × ℕ). p.1) sorted) ≡ length sorted = length-map sorted (λ p. p.1) in
          let le : i ≤ j = omega arith in
          let under : j < length sorted = omega arith in
          let over : i < length sorted = omega arith in
          let far = sorted_far (is_before rank_cmp) (ranks_by rank_total (λ (p : R × ℕ). p.0)) sorted up i j x le under in
          let one = ranks i x over a (subst (λ n. HasKey entries n a) (get_or-map (λ (p : R × ℕ). p.1) sorted i x d over) p) in
          let other = ranks j x under b (subst (λ n. HasKey entries n b) (get_or-map (λ (p : R × ℕ). p.1) sorted j x d under) q) in
          ap is_gt (total.antisymm a b)
          ∙ not_gt (cmp b a) (ap is_lt (sym (same_order _ _ b a other one)) ∙ far);
    }

    rising : (sorted : List (R × ℕ)) → All Stands sorted
        → IsSortedBy (is_before rank_cmp) sorted → IsRising cmp entries (map (λ p. p.1) sorted)
    rising [] ranks up = record { pairs = λ i j d lt below a b p q. absurd (omega arith) }
    rising (x ∷ sorted) ranks up = in-order (x ∷ sorted) x ranks up

    pub by-ranks : (ranked sorted : List (R × ℕ)) → AreRanked stands_for entries (length entries) ranked → IsPermutation ranked sorted
        → IsSortedBy (is_before rank_cmp) sorted → AreAllByKey cmp entries (map (λ p. p.1) sorted)
    by-ranks ranked sorted h moved up =
        let n = length entries in
        let swapped = IsPermutation-map (λ (p : R × ℕ). p.1) ranked sorted moved in
        record {
          within = All-permutation (λ i. i < n) _ _ swapped (All-same (λ i. i < n) _ _ h.positions (range-within n));
          whole = λ i l. Contains-permutation _ _ i swapped (subst (λ (xs : List ℕ). Contains xs i) (sym h.positions) (range-whole n i l));
          rising = rising sorted (All-permutation Stands ranked sorted moved h.ranks) up;
        }
