-- Positions in the order of their keys.
use Rattle.cif_calendar.proofs.Names.{All, Contains, Equal, Greater, HasKey, Less, List, Ordering, Terms, arith, false, get_or, is_gt}
use Rattle.cif_calendar.proofs.Names.{is_lt, keyed, length, length-map, ordering_reverse, range_with_len, refl, ℕ, ◌+◌, ◌<◌, ◌≡◌}
use Rattle.std.proofs.lemmas.List.FromFn.{get_or-range_with_len, length-range_with_len}
use Rattle.cif_calendar.proofs.Winning.{terms_at}

-- the numbers below n
pub range-within : (n : ℕ) → All (λ i. i < n) (range_with_len 0 n)
range-within n k d h =
    let e : length (range_with_len 0 n) ≡ n = length-range_with_len 0 n in
    let lt : k < n = omega arith in
    let at : get_or (range_with_len 0 n) k d ≡ 0 + k = get_or-range_with_len 0 n k d lt in omega arith

pub range-whole : (n i : ℕ) → i < n → Contains (range_with_len 0 n) i
range-whole n i h =
    let e : length (range_with_len 0 n) ≡ n = length-range_with_len 0 n in
    let at : get_or (range_with_len 0 n) i i ≡ 0 + i = get_or-range_with_len 0 n i i h in
    (i, (let z : i < length (range_with_len 0 n) = omega arith in z), (let z : get_or (range_with_len 0 n) i i ≡ i = omega arith in z))

pub not_gt : (o : Ordering) → is_lt o ≡ false → is_gt (ordering_reverse o) ≡ false
not_gt Less h = h
not_gt Equal h = refl
not_gt Greater h = refl

module _ {E K B : Type 0} (key : E → K) (terms : E → Terms B) where
  -- the key at an entry's position
  pub has-key : (es : List E) (i : ℕ) (e : E) → i < length es → e ≡ get_or es i e → HasKey (keyed key terms es) i (key e)
  has-key es i e below is = record { terms = terms e; at = terms_at (λ x. (key x, terms x)) es i e below is }

  pub within-entries : (es : List E) (i : ℕ) → i < length (keyed key terms es) → i < length es
  within-entries es i h = let e : length (keyed key terms es) ≡ length es = length-map es (λ x. (key x, terms x)) in omega arith

  pub all-within : (es : List E) (positions : List ℕ) → All (λ i. i < length (keyed key terms es)) positions
      → All (λ i. i < length es) positions
  all-within es positions h k d below = within-entries es (get_or positions k d) (h k d below)
