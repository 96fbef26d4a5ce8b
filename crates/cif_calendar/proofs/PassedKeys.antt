-- Entries of which those at the first positions have been looked at, in the order of their keys.
use Rattle.cif_calendar.proofs.Names.{All-contains, AnyHasKey, ArePositionsOf, Contains, Contains-append_cases, Contains-append_right}
use Rattle.cif_calendar.proofs.Names.{HasKey, IsCountOfKey, IsTotalOrder, Less, List, Ordering, Terms, drop, inl, inr, refl, subst, sym}
use Rattle.cif_calendar.proofs.Names.{take, take-append-drop, ℕ, ⊎_elim, ◌≡◌, ◌⊎◌}
use Rattle.cif_calendar.proofs.{KeyTurns.one-key, RisingLists.not_less}

module _ {K B : Type 0} (cmp : K → K → Ordering) where
  -- an entry is at the rest, or its key is before all that are left
  abbrev pub HasPassed : List (K × Terms B) → List ℕ → (K → Type 0) → Type 0
  HasPassed es rest left = (i : ℕ) (j : K) → HasKey es i j → Contains rest i ⊎ ((k : K) → left k → cmp j k ≡ Less)

  -- one side: the positions of the key are the front, if the key is left
  module _ (total : IsTotalOrder cmp) (es : List (K × Terms B)) (rest : List ℕ) (left : K → Type 0) (passed : HasPassed es rest left)
      (k : K) (here : left k) (n : ℕ) (front : IsCountOfKey cmp es rest k n) where
    at-front : (i : ℕ) → Contains (take n rest) i → HasKey es i k
    at-front i c = All-contains (λ i. HasKey es i k) (take n rest) i front.same c

    at-later : (i : ℕ) (j : K) → Contains (drop n rest) i → HasKey es i j → cmp k j ≡ Less
    at-later i j c has = All-contains (λ i. (j : K) → HasKey es i j → cmp k j ≡ Less) (drop n rest) i front.later c j has

    pub either : (i : ℕ) → Contains rest i → Contains (take n rest) i ⊎ Contains (drop n rest) i
    either i c = Contains-append_cases (take n rest) (drop n rest) i
        (subst (λ (xs : List ℕ). Contains xs i) (sym (take-append-drop n rest)) c)

    pub turn : ArePositionsOf es k (take n rest)
    turn = record {
      found = λ i c. let has = at-front i c in (has.terms, has.at);
      all = λ i r at.
          let has : HasKey es i k = record { terms = r; at = at } in
          ⊎_elim
          (λ in'. ⊎_elim (λ here. here) (λ after. absurd (not_less cmp total k k refl (at-later i k after has))) (either i in'))
          (λ before. absurd (not_less cmp total k k refl (before k here)))
          (passed i k has);
    }

    -- what is later is left
    pub left-before : (j : K) → AnyHasKey es (drop n rest) j → AnyHasKey es rest j
    left-before j any = record {
      position = any.position;
      member = subst (λ (xs : List ℕ). Contains xs any.position) (take-append-drop n rest)
          (Contains-append_right (take n rest) (drop n rest) any.position any.member);
      has = any.has;
    }

    pub later-less : (j : K) → AnyHasKey es (drop n rest) j → cmp k j ≡ Less
    later-less j any = at-later any.position j any.member any.has

    -- what was left is the key, or later
    pub key-or-later : (j : K) → AnyHasKey es rest j → (j ≡ k) ⊎ AnyHasKey es (drop n rest) j
    key-or-later j any = ⊎_elim
        (λ first. inl (one-key es any.position j k any.has (at-front any.position first)))
        (λ later. inr (record { position = any.position; member = later; has = any.has }))
        (either any.position any.member)

    -- the front has passed too
    pub passed-more : (next : K → Type 0) → ((j : K) → next j → left j) → ((j : K) → next j → cmp k j ≡ Less) →
        HasPassed es (drop n rest) next
    passed-more next still less i j has = ⊎_elim
        (λ in'. ⊎_elim
        (λ first. inr (λ m is. subst (λ z. cmp z m ≡ Less) (one-key es i k j (at-front i first) has) (less m is)))
        (λ later. inl later)
        (either i in'))
        (λ before. inr (λ m is. before m (still m is)))
        (passed i j has)
