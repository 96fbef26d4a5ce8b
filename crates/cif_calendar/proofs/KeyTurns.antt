-- How many positions have the first key, where they are in the order of their keys.
use Rattle.cif_calendar.proofs.Names.{All, All-contains, AnyHasKey, AreFrom, AreOfFirstKey, Contains, Contains-append_left, Contains-get_or}
use Rattle.cif_calendar.proofs.Names.{Equal, Greater, HasKey, IsCountOfKey, IsNotAfter, IsRising, IsTotalOrder, Less, List, Ordering, Terms}
use Rattle.cif_calendar.proofs.Names.{alike_right, ap, arith, cases_lt, drop, false, get_or, get_or-drop, get_or_default, inl, inr, is_gt}
use Rattle.cif_calendar.proofs.Names.{length, length-drop, length-take-le, of_key, refl, same_Some, slice_get_within, subst, suc, sym, take}
use Rattle.cif_calendar.proofs.Names.{take-append-drop, tied_itself, true≢false, zero, ℕ, ⊎_elim, ◌+◌, ◌-◌, ◌<◌, ◌∙◌, ◌≡◌, ◌≤◌, ◌⊎◌}
use Rattle.cif_calendar.proofs.{Positions.at-contains, RisingLists.not_less}

-- a position has one key
pub one-key : {K B : Type 0} (es : List (K × Terms B)) (i : ℕ) (j k : K) → HasKey es i j → HasKey es i k → j ≡ k
one-key {K = K} {B = B} es i j k p q = ap (λ (x : K × Terms B). x.0) (same_Some (j, p.terms) (k, q.terms) (sym p.at ∙ q.at))

module _ {K : Type 0} (cmp : K → K → Ordering) (total : IsTotalOrder cmp) where
  -- a key before one that isn't after another
  less-upto : (a b c : K) (o : Ordering) → cmp b c ≡ o → is_gt o ≡ false → cmp a b ≡ Less → cmp a c ≡ Less
  less-upto a b c Less e n h = total.trans a b c h e
  less-upto a b c Equal e n h = sym (alike_right total b c a e) ∙ h
  less-upto a b c Greater e n h = absurd (true≢false n)

  -- a key that isn't after another, and isn't the other
  less-apart : ((j k : K) → cmp j k ≡ Equal → j ≡ k) → (a b : K) (o : Ordering) → cmp a b ≡ o → is_gt o ≡ false → (a ≡ b → ⊥) →
      cmp a b ≡ Less
  less-apart same a b Less e n apart = e
  less-apart same a b Equal e n apart = absurd (apart (same a b e))
  less-apart same a b Greater e n apart = absurd (true≢false n)

module _ {K : Type 0} (cmp : K → K → Ordering) (total : IsTotalOrder cmp) (same : (j k : K) → cmp j k ≡ Equal → j ≡ k) where
  not-after : (a b c : K) (o : Ordering) → cmp a b ≡ o → is_gt o ≡ false → is_gt (cmp b c) ≡ false → is_gt (cmp a c) ≡ false
  not-after a b c Less e n h = ap is_gt (less-upto cmp total a b c (cmp b c) refl h e)
  not-after a b c Equal e n h = subst (λ k. is_gt (cmp k c) ≡ false) (sym (same a b e)) h
  not-after a b c Greater e n h = absurd (true≢false n)

  -- what is from a key on is from one that isn't after it
  pub from-lower : {B : Type 0} (es : List (K × Terms B)) (rest : List ℕ) (k a : K) → is_gt (cmp k a) ≡ false → AreFrom cmp es rest a →
      AreFrom cmp es rest k
  from-lower es rest k a n from i d below j has = not-after k a j (cmp k a) refl n (from i d below j has)

-- two keys are one, or not
pub decided : {K : Type 0} (cmp : K → K → Ordering) → IsTotalOrder cmp → ((j k : K) → cmp j k ≡ Equal → j ≡ k) → (j k : K) (o : Ordering) →
    cmp j k ≡ o → (j ≡ k) ⊎ (j ≡ k → ⊥)
decided cmp total same j k Equal e = inl (same j k e)
decided cmp total same j k Less e = inr (λ is. not_less cmp total j k is e)
decided cmp total same j k Greater e =
    inr (λ is. let tied : cmp j k ≡ Equal = subst (λ z. cmp j z ≡ Equal) is (tied_itself total j) in cc)

-- where all positions are left, a key that is at none has no entry
pub no-entry : {K B : Type 0} (es : List (K × Terms B)) (rest : List ℕ) → ((i : ℕ) → i < length es → Contains rest i) → (k : K) →
    (AnyHasKey es rest k → ⊥) → (r : Terms B) → of_key es k r → ⊥
no-entry es rest whole k none r in' =
    let (i, at) = at-contains es (k, r) in' in
    none (record { position = i; member = whole i (slice_get_within es i (k, r) at); has = record { terms = r; at = at } })

-- the first key is at the positions
pub first-leads : {K B : Type 0} (cmp : K → K → Ordering) (es : List (K × Terms B)) (rest : List ℕ) (n : ℕ)
    (run : AreOfFirstKey cmp es rest n) → AnyHasKey es rest run.key
first-leads cmp es rest n run =
    let len : length (take n rest) ≡ n = length-take-le n rest run.count.upto in
    let some : 0 < n = run.some in
    let c : Contains (take n rest) (get_or (take n rest) 0 0) = Contains-get_or (take n rest) 0 0 (omega arith) in
    record {
      position = get_or (take n rest) 0 0;
      member = subst (λ (xs : List ℕ). Contains xs (get_or (take n rest) 0 0)) (take-append-drop n rest)
          (Contains-append_left (take n rest) (drop n rest) (get_or (take n rest) 0 0) c);
      has = All-contains (λ i. HasKey es i run.key) (take n rest) (get_or (take n rest) 0 0) run.count.same c;
    }

module _ {K B : Type 0} (cmp : K → K → Ordering) (es : List (K × Terms B)) (rest : List ℕ) (rising : IsRising cmp es rest) where
  -- the positions after the first n are in order too
  pub rising-after : (n : ℕ) → IsRising cmp es (drop n rest)
  rising-after n = record {
    pairs = λ i j d less within.
        let len : length (drop n rest) ≡ length rest - n = length-drop n rest in
        subst (λ p. IsNotAfter cmp es p (get_or (drop n rest) j d)) (sym (get_or-drop n rest i d))
        (subst (λ q. IsNotAfter cmp es (get_or rest (n + i) d) q) (sym (get_or-drop n rest j d))
        (rising.pairs (n + i) (n + j) d (omega arith) (omega arith)));
  }

  module _ (total : IsTotalOrder cmp) (same : (j k : K) → cmp j k ≡ Equal → j ≡ k) where
    -- after a position with a later key there is no other
    later-from : (n : ℕ) (k a : K) → n < length rest → HasKey es (get_or rest n 0) a → cmp k a ≡ Less →
        All (λ i. (j : K) → HasKey es i j → cmp k j ≡ Less) (drop n rest)
    later-from n k a below has less i d lt j here =
        let len : length (drop n rest) ≡ length rest - n = length-drop n rest in
        let within : n + i < length rest = omega arith in
        let there : HasKey es (get_or rest (n + i) 0) j =
        subst (λ p. HasKey es p j) (get_or-drop n rest i d ∙ get_or_default rest (n + i) d 0 within) here in
        ⊎_elim
        (λ after. less-upto cmp total k a j (cmp a j) refl (rising.pairs n (n + i) 0 (omega arith) within a j has there) less)
        (λ first. let at : n + i ≡ n = omega arith in
        subst (λ b. cmp k b ≡ Less) (one-key es (get_or rest n 0) a j has (subst (λ m. HasKey es (get_or rest m 0) j) at there)) less)
        (cases_lt 0 i)

    -- the first n positions have the key, and the next has another
    pub count-ends : (n : ℕ) (k j : K) → n < length rest → All (λ i. HasKey es i k) (take n rest) → AreFrom cmp es rest k →
        HasKey es (get_or rest n 0) j → (j ≡ k → ⊥) → IsCountOfKey cmp es rest k n
    count-ends n k j below alike from has apart = record {
      upto = (let z : n ≤ length rest = omega arith in z);
      same = alike;
      later = later-from n k j below has (less-apart cmp total same k j (cmp k j) refl (from n 0 below j has) (λ e. apart (sym e)));
    }

  -- all positions have the key
  pub count-of_all : (k : K) → All (λ i. HasKey es i k) (take (length rest) rest) → IsCountOfKey cmp es rest k (length rest)
  count-of_all k alike = record {
    upto = (let z : length rest ≤ length rest = omega arith in z);
    same = alike;
    later = λ i d lt. let len : length (drop (length rest) rest) ≡ length rest - length rest = length-drop (length rest) rest in
        absurd (omega arith);
  }

  module _ (total : IsTotalOrder cmp) (k : K) (leads : HasKey es (get_or rest 0 0) k) where
    -- no key is before the first's
    pub from-first : AreFrom cmp es rest k
    from-first i d below j has = ⊎_elim
        (λ after. rising.pairs 0 i 0 (omega arith) below k j leads (subst (λ p. HasKey es p j) (get_or_default rest i d 0 below) has))
        (λ first. let at : i ≡ 0 = omega arith in
        let same : j ≡ k = one-key es (get_or rest 0 0) j k
        (subst (λ m. HasKey es (get_or rest m 0) j) at (subst (λ p. HasKey es p j) (get_or_default rest i d 0 below) has)) leads in
        subst (λ z. is_gt (cmp k z) ≡ false) (sym same) (ap is_gt (tied_itself total k)))
        (cases_lt 0 i)

    -- the count of the first's key isn't 0
    pub of-first_key : 0 < length rest → (n : ℕ) → IsCountOfKey cmp es rest k n → AreOfFirstKey cmp es rest n
    of-first_key filled zero count =
        absurd (not_less cmp total k k refl (count.later 0 0 (let z : 0 < length rest = filled in z) k leads))
    of-first_key filled (suc n) count = record { key = k; some = (let z : 0 < suc n = omega arith in z); count = count }
