-- Which weekdays are in a set that is kept as the bits of a number.
use Rattle.cif_columns.proofs.Names.{Bool, IsFirstOf, IsLastOf, IsTrue, List, RunsOn, Some, [], ap, arith, bit_and, bit_or, bits_of}
use Rattle.cif_columns.proofs.Names.{bits_of-flags, cases_lt, cond, false, flag, flags, get_or, get_or_default, inl, inr, leading_top}
use Rattle.cif_columns.proofs.Names.{length, nat_eq, nat_tests, refl, same_Some, same_lists, slice_get, slice_get_within, subst, suc, sym}
use Rattle.cif_columns.proofs.Names.{true, w8, zero, ℕ, ⊎_elim, ◌%◌, ◌*◌, ◌+◌, ◌-◌, ◌/◌, ◌<◌, ◌^◌, ◌↔◌, ◌∙◌, ◌∷◌, ◌≡◌, ◌≢◌, ◌≤◌, ◌⊎◌}
use Rattle.std.{proofs.Math.Nat.pow-le-pow_right, proofs.lemmas.Nat.Bits.shr_and_one}
use Rattle.std.proofs.lemmas.Nat.Bits.{bit_at-lt, bit_at-pow_other, bit_at-pow_same, bit_at-trailing_zeros, bit_at_above, bit_at_and}
use Rattle.std.proofs.lemmas.Nat.Bits.{bit_at_cat_high, bit_at_mask_above, bit_at_mask_below, bit_at_mask_inside, bit_at_not, bit_at_or}
use Rattle.std.specs.Int.{bit_at, leading_zeros, trailing_zeros}

-- what holds of each of the numbers below seven
pub each_of_seven : (P : ℕ → Type 0) → P 0 → P 1 → P 2 → P 3 → P 4 → P 5 → P 6 → (k : ℕ) → k < 7 → P k
each_of_seven P a b c d e f g zero h = a
each_of_seven P a b c d e f g (suc zero) h = b
each_of_seven P a b c d e f g (suc (suc zero)) h = c
each_of_seven P a b c d e f g (suc (suc (suc zero))) h = d
each_of_seven P a b c d e f g (suc (suc (suc (suc zero)))) h = e
each_of_seven P a b c d e f g (suc (suc (suc (suc (suc zero))))) h = f
each_of_seven P a b c d e f g (suc (suc (suc (suc (suc (suc zero)))))) h = g
each_of_seven P a b c d e f g (suc (suc (suc (suc (suc (suc (suc k))))))) h = absurd (omega arith)

flag_at : (bits w : ℕ) → w < 7 → slice_get (flags bits) w ≡ Some (flag bits w)
flag_at bits = each_of_seven (λ w. slice_get (flags bits) w ≡ Some (flag bits w)) refl refl refl refl refl refl refl

is_set : (bits w : ℕ) → flag bits w ≡ true → bit_at bits w ≡ 1
is_set bits w e = grind (arith, nat_tests)

sets : (bits w : ℕ) → bit_at bits w ≡ 1 → flag bits w ≡ true
sets bits w e = grind (arith, nat_tests)

-- a weekday of the set is a bit that is set
pub below-runs : (bits w : ℕ) → RunsOn (flags bits) w → w < 7
below-runs bits w on = slice_get_within (flags bits) w true on

pub bit-runs : (bits w : ℕ) → RunsOn (flags bits) w → bit_at bits w ≡ 1
bit-runs bits w on = is_set bits w (same_Some _ true (sym (flag_at bits w (below-runs bits w on)) ∙ on))

pub runs-bit : (bits w : ℕ) → w < 7 → bit_at bits w ≡ 1 → RunsOn (flags bits) w
runs-bit bits w below e = flag_at bits w below ∙ ap Some (sets bits w e)

pub runs-or : (a b w : ℕ) → RunsOn (flags (bit_or a b)) w ↔ (RunsOn (flags a) w ⊎ RunsOn (flags b) w)
runs-or a b w = (
  λ on.
      let below : w < 7 = below-runs (bit_or a b) w on in
      let e : bit_at (bit_or a b) w ≡ 1 = bit-runs (bit_or a b) w on in
      ⊎_elim
      (λ (one : bit_at a w < 1). inr (runs-bit b w below (omega (arith, e, one, bit_at_or a b w, bit_at-lt a w))))
      (λ one. inl (runs-bit a w below (omega (arith, one, bit_at-lt a w))))
      (cases_lt (bit_at a w) 1),
  λ either. ⊎_elim
      (λ on. runs-bit (bit_or a b) w (below-runs a w on)
      (omega (arith, bit-runs a w on, bit_at_or a b w, bit_at-lt a w, bit_at-lt b w)))
      (λ on. runs-bit (bit_or a b) w (below-runs b w on)
      (omega (arith, bit-runs b w on, bit_at_or a b w, bit_at-lt a w, bit_at-lt b w)))
      either,
)

pub runs-and : (a b w : ℕ) → RunsOn (flags (bit_and a b)) w ↔ (RunsOn (flags a) w × RunsOn (flags b) w)
runs-and a b w = (
  λ on.
      let below : w < 7 = below-runs (bit_and a b) w on in
      let e : bit_at (bit_and a b) w ≡ 1 = bit-runs (bit_and a b) w on in (
        runs-bit a w below (omega (arith, e, bit_at_and a b w, bit_at-lt a w, bit_at-lt b w)),
        runs-bit b w below (omega (arith, e, bit_at_and a b w, bit_at-lt a w, bit_at-lt b w)),
      ),
  λ both. runs-bit (bit_and a b) w (below-runs a w both.0) (omega (arith, bit-runs a w both.0, bit-runs b w both.1, bit_at_and a b w)),
)

-- the weekdays that the other set, whose bits are below 128, doesn't have
pub runs-without : (a b w : ℕ) → b < 128 → RunsOn (flags (bit_and a (255 - b))) w ↔ (RunsOn (flags a) w × (¬ RunsOn (flags b) w))
runs-without a b w within = (
  λ on.
      let below : w < 7 = below-runs (bit_and a (255 - b)) w on in
      let both = (runs-and a (255 - b) w).0 on in
      let not : bit_at (255 - b) w ≡ 1 - bit_at b w = bit_at_not w8 b w (omega arith) (omega arith) in
      (both.0, λ other. absurd (omega (arith, bit-runs (255 - b) w both.1, bit-runs b w other, not))),
  λ both.
      let below : w < 7 = below-runs a w both.0 in
      let not : bit_at (255 - b) w ≡ 1 - bit_at b w = bit_at_not w8 b w (omega arith) (omega arith) in
      ⊎_elim
      (λ (none : bit_at b w < 1). (runs-and a (255 - b) w).1 (both.0, runs-bit (255 - b) w below (omega (arith, none, not))))
      (λ one. absurd (both.1 (runs-bit b w below (omega (arith, one, bit_at-lt b w)))))
      (cases_lt (bit_at b w) 1),
)

-- the weekdays from one on and before another
between-runs : (from to w : ℕ) → from ≤ to → to ≤ 7 → RunsOn (flags (2 ^ to - 2 ^ from)) w ↔ ((from ≤ w) × (w < to))
between-runs from to w in_order within = (
  λ on.
      let e : bit_at (2 ^ to - 2 ^ from) w ≡ 1 = bit-runs (2 ^ to - 2 ^ from) w on in
      ⊎_elim
      (λ (early : w < from). absurd (omega (arith, e, bit_at_mask_below from to w early)))
      (λ begun. ⊎_elim
      (λ (early : w < to). (begun, early))
      (λ late. absurd (omega (arith, e, bit_at_mask_above from to w late)))
      (cases_lt w to))
      (cases_lt w from),
  λ both. runs-bit (2 ^ to - 2 ^ from) w (omega (arith, both.1)) (bit_at_mask_inside from to w both.0 both.1),
)

-- a power of two at eight bits
power : (k : ℕ) → k ≤ 7 → 1 * 2 ^ k % 256 ≡ 2 ^ k
power k within = let most : 2 ^ k ≤ 2 ^ 7 = pow-le-pow_right (omega arith) within in omega (arith, most)

pub powers : (from to : ℕ) → from ≤ to → to ≤ 7 → 1 * 2 ^ from % 256 ≤ 1 * 2 ^ to % 256
powers from to in_order within =
    let rising : 2 ^ from ≤ 2 ^ to = pow-le-pow_right (omega arith) in_order in
    omega (arith, rising, power from (omega (arith, in_order, within)), power to within)

pub runs-between : (from to w : ℕ) → from ≤ to → to ≤ 7 → RunsOn (flags (1 * 2 ^ to % 256 - 1 * 2 ^ from % 256)) w ↔ ((from ≤ w) × (w < to))
runs-between from to w in_order within =
    let same : 2 ^ to - 2 ^ from ≡ 1 * 2 ^ to % 256 - 1 * 2 ^ from % 256 =
    omega (arith, power from (omega (arith, in_order, within)), power to within) in
    subst (λ bits. RunsOn (flags bits) w ↔ ((from ≤ w) × (w < to))) same (between-runs from to w in_order within)

pub has-runs : (bits w : ℕ) → w < 7 → IsTrue (nat_eq (bit_and (bits / 2 ^ w) 1) 1) ↔ RunsOn (flags bits) w
has-runs bits w below = rw (shr_and_one bits w) (λ e. flag_at bits w below ∙ ap Some e, λ on. sets bits w (bit-runs bits w on))

-- the flags of a number that was made of seven bits
flag-bit : (bits w n : ℕ) (runs : Bool) → n ≡ cond runs 1 0 → bit_at bits w ≡ n → flag bits w ≡ runs
flag-bit bits w n true is e = sets bits w (e ∙ is)
flag-bit bits w n false is e = let off : bit_at bits w ≡ 0 = e ∙ is in grind (arith, nat_tests)

bit-below : (n : ℕ) (runs : Bool) → n ≡ cond runs 1 0 → n < 2
bit-below n true is = omega (arith, is)
bit-below n false is = omega (arith, is)

-- a list of seven, element by element
pub seven : {X : Type 0} (none : X) (xs : List X) → length xs ≡ 7 → xs ≡ get_or xs 0 none ∷ get_or xs 1 none ∷ get_or xs 2 none
    ∷ get_or xs 3 none ∷ get_or xs 4 none ∷ get_or xs 5 none ∷ get_or xs 6 none ∷ []
seven {X} none xs h = same_lists xs _ h (λ k d below. each_of_seven (λ i. get_or xs i d ≡ get_or (get_or xs 0 none ∷ get_or xs 1 none
    ∷ get_or xs 2 none ∷ get_or xs 3 none ∷ get_or xs 4 none ∷ get_or xs 5 none ∷ get_or xs 6 none ∷ []) i d)
    (at 0 d (omega arith)) (at 1 d (omega arith)) (at 2 d (omega arith)) (at 3 d (omega arith)) (at 4 d (omega arith))
    (at 5 d (omega arith)) (at 6 d (omega arith)) k (omega arith))
  where
    at : (i : ℕ) (d : X) → i < 7 → get_or xs i d ≡ get_or xs i none
    at i d within = get_or_default xs i d none (omega arith)

module _ (xs : List Bool) (length_is : length xs ≡ 7) (a b c d e f g : ℕ)
    (on_a : a ≡ cond (get_or xs 0 false) 1 0) (on_b : b ≡ cond (get_or xs 1 false) 1 0) (on_c : c ≡ cond (get_or xs 2 false) 1 0)
    (on_d : d ≡ cond (get_or xs 3 false) 1 0) (on_e : e ≡ cond (get_or xs 4 false) 1 0) (on_f : f ≡ cond (get_or xs 5 false) 1 0)
    (on_g : g ≡ cond (get_or xs 6 false) 1 0) where
  abbrev number : ℕ
  number = 2 * (2 * (2 * (2 * (2 * (2 * g + f) + e) + d) + c) + b) + a

  bounds : (a < 2) × (b < 2) × (c < 2) × (d < 2) × (e < 2) × (f < 2) × (g < 2)
  bounds = (
    bit-below a _ on_a,
    bit-below b _ on_b,
    bit-below c _ on_c,
    bit-below d _ on_d,
    bit-below e _ on_e,
    bit-below f _ on_f,
    bit-below g _ on_g,
  )

  pub flags-seven : flags number ≡ xs
  flags-seven = cc (
    flag-bit number 0 a _ on_a (omega (arith, bounds)),
    flag-bit number 1 b _ on_b (omega (arith, bounds)),
    flag-bit number 2 c _ on_c (omega (arith, bounds)),
    flag-bit number 3 d _ on_d (omega (arith, bounds)),
    flag-bit number 4 e _ on_e (omega (arith, bounds)),
    flag-bit number 5 f _ on_f (omega (arith, bounds)),
    flag-bit number 6 g _ on_g (omega (arith, bounds)),
    seven false xs length_is,
  )

pub only-within : (k : ℕ) → k < 7 → 1 * 2 ^ k % 256 < 128
only-within k within =
    let below : k ≤ 6 = omega arith in
    let most : 2 ^ k ≤ 2 ^ 6 = pow-le-pow_right (omega arith) below in omega (arith, most)

pub runs-only : (k w : ℕ) → k < 7 → RunsOn (flags (1 * 2 ^ k % 256)) w ↔ (w ≡ k)
runs-only k w within =
    let same : 2 ^ k ≡ 1 * 2 ^ k % 256 = omega (arith, power k (omega arith)) in
    subst (λ bits. RunsOn (flags bits) w ↔ (w ≡ k)) same (
      is,
      λ e. subst (RunsOn (flags (2 ^ k))) (sym e) (runs-bit (2 ^ k) k within (bit_at-pow_same k)),
    )
  where
    no_other : RunsOn (flags (2 ^ k)) w → (w ≢ k) → ⊥
    no_other on other = omega (arith, bit-runs (2 ^ k) w on, bit_at-pow_other k w other)

    is : RunsOn (flags (2 ^ k)) w → w ≡ k
    is on = ⊎_elim
        (λ (less : w < k). absurd (no_other on (λ e. omega arith)))
        (λ from. ⊎_elim (λ (more : k < w). absurd (no_other on (λ e. omega arith))) (λ upto. omega arith) (cases_lt k w))
        (cases_lt w k)

-- the first and the last weekday
pub some-bit : (bits : ℕ) → ¬ (bits ≡ 0) → 0 < bits
some-bit zero some = absurd (some refl)
some-bit (suc bits) some = omega arith

pub first-of : (bits : ℕ) → 0 < bits → bits < 128 → (trailing_zeros w8 bits < 7) × IsFirstOf (flags bits) (trailing_zeros w8 bits)
first-of bits some within =
    let (below, set, none) = bit_at-trailing_zeros w8 bits some (omega arith) in
    let seven : trailing_zeros w8 bits < 7 = ⊎_elim
    (λ h. h)
    (λ (late : 7 ≤ trailing_zeros w8 bits). absurd (omega (arith, set, bit_at_above bits 7 (trailing_zeros w8 bits) within late)))
    (cases_lt (trailing_zeros w8 bits) 7) in (
      seven,
      record {
        runs = runs-bit bits (trailing_zeros w8 bits) seven set;
        none_before = λ other before on. absurd (omega (arith, bit-runs bits other on, none other before));
      },
    )

-- the highest bit
top-bit : (bits top p : ℕ) → p ≡ 2 ^ top → p ≤ bits → bits < p + p → bit_at bits top ≡ 1
top-bit bits top p is low high =
    let split : 1 * 2 ^ top + (bits - p) ≡ bits = omega (arith, is, low) in
    let at : bit_at (1 * 2 ^ top + (bits - p)) top ≡ bit_at 1 (top - top) =
    bit_at_cat_high 1 top (bits - p) top (omega (arith, is, low, high)) (omega arith) in
    let none : top - top ≡ 0 = omega arith in
    subst (λ n. bit_at n top ≡ 1) split (at ∙ subst (λ k. bit_at 1 k ≡ 1) (sym none) refl)

last-from : (bits zeros : ℕ) → bits < 128 → (j : ℕ) × (zeros + suc j ≡ 8) × (2 ^ j ≤ bits) × (bits < 2 ^ suc j)
    → (7 - zeros < 7) × IsLastOf (flags bits) (7 - zeros)
last-from bits zeros within (top, sum, low, high) =
    let set : bit_at bits top ≡ 1 = top-bit bits top (2 ^ top) refl low (omega (arith, high)) in
    let below : top < 7 = ⊎_elim
    (λ (h : top < 7). h)
    (λ (late : 7 ≤ top). absurd (omega (arith, set, bit_at_above bits 7 top within late)))
    (cases_lt top 7) in
    let place : top ≡ 7 - zeros = omega (arith, sum) in (
      omega (arith, sum, below),
      subst (IsLastOf (flags bits)) place (record {
        runs = runs-bit bits top below set;
        none_after = λ other after on. absurd (omega (arith, bit-runs bits other on, bit_at_above bits (suc top) other high after));
      }),
    )

pub last-of : (bits : ℕ) → 0 < bits → bits < 128 → (7 - leading_zeros w8 bits < 7) × IsLastOf (flags bits) (7 - leading_zeros w8 bits)
last-of bits some within = last-from bits (leading_zeros w8 bits) within (leading_top 8 bits some (omega arith))

-- sets are the same exactly if their bits are
pub same-bits : (a b : ℕ) → a < 128 → b < 128 → IsTrue (nat_eq a b) ↔ (flags a ≡ flags b)
same-bits a b in_a in_b = (
  λ e. ap flags (grind (arith, nat_tests)),
  λ e. let same : a ≡ b = sym (bits_of-flags a in_a) ∙ ap bits_of e ∙ bits_of-flags b in_b in grind (arith, nat_tests),
)
