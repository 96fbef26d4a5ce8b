-- Two lists are compared key by key, over their positions in the order of their keys.
use Rattle.cif_canon.proofs.Names.{All-contains, AnyHasKey, AreAllByKey, ArePositionsOf, Contains-none, Equal, HasKey, HasPassed}
use Rattle.cif_canon.proofs.Names.{IsCountOfKey, IsFirstOfBoth, IsRising, IsTotalOrder, Less, List, Ordering, Terms, [], arith, drop, inl}
use Rattle.cif_canon.proofs.Names.{inr, key-or-later, later-less, left-before, length, length-drop, no-entry, not_less, of_key, passed-more}
use Rattle.cif_canon.proofs.Names.{refl, rising-after, slice_get_within, subst, suc, sym, take, turn, zero, ℕ, ⊎_elim, ◌+◌, ◌-◌, ◌<◌, ◌≡◌}
use Rattle.cif_canon.proofs.Names.{◌⊎◌}
use Rattle.cif_calendar.proofs.KeyTurns.{decided}

module _ {K B : Type 0} (cmp : K → K → Ordering) where
  -- one of the keys at these positions of a list, or of those of another
  abbrev pub IsLeft : List (K × Terms B) → List ℕ → List (K × Terms B) → List ℕ → K → Type 0
  IsLeft xs l ys r k = AnyHasKey xs l k ⊎ AnyHasKey ys r k

  -- where there is an entry of the key, its front has a position
  front-some : IsTotalOrder cmp → (es : List (K × Terms B)) (rest : List ℕ) (k : K) → AnyHasKey es rest k → (n : ℕ) →
      IsCountOfKey cmp es rest k n → 0 < n
  front-some total es rest k any zero front =
      absurd (not_less cmp total k k refl (All-contains (λ i. (j : K) → HasKey es i j → cmp k j ≡ Less) rest any.position front.later
      any.member k any.has))
  front-some total es rest k any (suc n) front = (let z : 0 < suc n = omega arith in z)

  -- What isn't at the rests has passed, and of each key that isn't left something is known.
  pub record ArePassed (xs ys : List (K × Terms B)) (l r : List ℕ) (Known : K → Type 0) : Type 0 where
    pub left_rising : IsRising cmp xs l
    pub right_rising : IsRising cmp ys r
    pub left_passed : HasPassed cmp xs l (IsLeft xs l ys r)
    pub right_passed : HasPassed cmp ys r (IsLeft xs l ys r)
    pub known : (k : K) → (IsLeft xs l ys r k → ⊥) → Known k

  -- the fronts of both rests are the positions of the key, and the keys of what is later are those that are left, and after it
  pub record AreTurns (xs ys : List (K × Terms B)) (l r : List ℕ) (k : K) (l_front l_later r_front r_later : List ℕ) : Type 0 where
    pub left : ArePositionsOf xs k l_front
    pub right : ArePositionsOf ys k r_front
    pub smaller : length l_later + length r_later < length l + length r
    pub still : (j : K) → IsLeft xs l_later ys r_later j → IsLeft xs l ys r j
    pub later : (j : K) → IsLeft xs l_later ys r_later j → cmp k j ≡ Less

  module _ (total : IsTotalOrder cmp) (same : (j k : K) → cmp j k ≡ Equal → j ≡ k) (xs ys : List (K × Terms B)) where
    -- at first all positions are left
    pub passed-nothing : (l r : List ℕ) → AreAllByKey cmp xs l → AreAllByKey cmp ys r → (Known : K → Type 0) →
        ((k : K) → ((t : Terms B) → of_key xs k t → ⊥) → ((t : Terms B) → of_key ys k t → ⊥) → Known k) → ArePassed xs ys l r Known
    passed-nothing l r left right Known idle = record {
      left_rising = left.rising;
      right_rising = right.rising;
      left_passed = λ i j has. inl (left.whole i (slice_get_within xs i (j, has.terms) has.at));
      right_passed = λ i j has. inl (right.whole i (slice_get_within ys i (j, has.terms) has.at));
      known = λ k none. idle k (no-entry xs l left.whole k (λ any. none (inl any))) (no-entry ys r right.whole k (λ any. none (inr any)));
    }

    -- nobody is left where there are no positions
    pub nobody : (k : K) → IsLeft xs [] ys [] k → ⊥
    nobody k = ⊎_elim (λ any. Contains-none any.position any.member) (λ any. Contains-none any.position any.member)

    module _ (l r : List ℕ) (Known : K → Type 0) (a : ArePassed xs ys l r Known) (k : K) (f : IsFirstOfBoth cmp xs l ys r k) where
      module _ (n m : ℕ) (left_front : IsCountOfKey cmp xs l k n) (right_front : IsCountOfKey cmp ys r k m) where
        left-turn : ArePositionsOf xs k (take n l)
        left-turn = turn cmp total xs l (IsLeft xs l ys r) a.left_passed k f.has n left_front

        right-turn : ArePositionsOf ys k (take m r)
        right-turn = turn cmp total ys r (IsLeft xs l ys r) a.right_passed k f.has m right_front

        -- one of the fronts has a position
        front-of_both : 0 < n + m
        front-of_both = ⊎_elim
            (λ any. let some = front-some total xs l k any n left_front in omega (arith, some))
            (λ any. let some = front-some total ys r k any m right_front in omega (arith, some))
            f.has

        still : (j : K) → IsLeft xs (drop n l) ys (drop m r) j → IsLeft xs l ys r j
        still j = ⊎_elim
            (λ any. inl (left-before cmp total xs l (IsLeft xs l ys r) a.left_passed k f.has n left_front j any))
            (λ any. inr (left-before cmp total ys r (IsLeft xs l ys r) a.right_passed k f.has m right_front j any))

        less : (j : K) → IsLeft xs (drop n l) ys (drop m r) j → cmp k j ≡ Less
        less j = ⊎_elim
            (λ any. later-less cmp total xs l (IsLeft xs l ys r) a.left_passed k f.has n left_front j any)
            (λ any. later-less cmp total ys r (IsLeft xs l ys r) a.right_passed k f.has m right_front j any)

        -- a key that was left, and is another, is left
        left-on : (j : K) → (j ≡ k → ⊥) → IsLeft xs l ys r j → IsLeft xs (drop n l) ys (drop m r) j
        left-on j apart = ⊎_elim
            (λ any. ⊎_elim (λ is. absurd (apart is)) (λ later. inl later)
            (key-or-later cmp total xs l (IsLeft xs l ys r) a.left_passed k f.has n left_front j any))
            (λ any. ⊎_elim (λ is. absurd (apart is)) (λ later. inr later)
            (key-or-later cmp total ys r (IsLeft xs l ys r) a.right_passed k f.has m right_front j any))

        pub turns : AreTurns xs ys l r k (take n l) (drop n l) (take m r) (drop m r)
        turns = record {
          left = left-turn;
          right = right-turn;
          smaller =
              let left : length (drop n l) ≡ length l - n = length-drop n l in
              let right : length (drop m r) ≡ length r - m = length-drop m r in
              let some = front-of_both in
              let left_upto = left_front.upto in
              let right_upto = right_front.upto in
              omega (arith, left, right, some, left_upto, right_upto);
          still = still;
          later = less;
        }

        -- the key has passed
        pub pass : (Next : K → Type 0) → Next k → ((j : K) → (j ≡ k → ⊥) → Known j → Next j) → ArePassed xs ys (drop n l) (drop m r) Next
        pass Next here on = record {
          left_rising = rising-after cmp xs l a.left_rising n;
          right_rising = rising-after cmp ys r a.right_rising m;
          left_passed = passed-more cmp total xs l (IsLeft xs l ys r) a.left_passed k f.has n left_front
              (IsLeft xs (drop n l) ys (drop m r)) still less;
          right_passed = passed-more cmp total ys r (IsLeft xs l ys r) a.right_passed k f.has m right_front
              (IsLeft xs (drop n l) ys (drop m r)) still less;
          known = λ j none. ⊎_elim
              (λ is. subst (λ i. Next i) (sym is) here)
              (λ apart. on j apart (a.known j (λ was. none (left-on j apart was))))
              (decided cmp total same j k (cmp j k) refl);
        }
