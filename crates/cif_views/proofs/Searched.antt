-- Locations that are searched: those that a place names, and those that have a name.
use Rattle.cif_views.proofs.Names.{AllPairs, Bool, Equal, Greater, IsTotalOrder, Less, List, None, Option, Ordering, Some, [], ap, arith, drop, false}
use Rattle.std.proofs.lemmas.Cmp.{nat_cmp_total}
use Rattle.cif_views.proofs.Names.{false≢true, find, get_or, if◌then◌else◌, is_lt, length, nat_cmp, ordering_reverse, ordering_then}
use Rattle.cif_views.proofs.Names.{pointwise, refl, slice_cmp, slice_index_or, subst, suc, sym, take, true, zero, ℕ, ◌+◌, ◌<◌, ◌∙◌, ◌∷◌, ◌≡◌, ◌≤◌}
use Rattle.std.specs.{List.Sorted.IsBinarySearchResult, List.Sorted.IsNonDecreasingBy, List.Sorted.IsSearchInRange, List.Sorted.IsSorted}
use Rattle.std.specs.{List.list_any, Ordering.ordering_index, Prelude.Err, Prelude.Ok, Prelude.Result, Result.is_ok}
use Rattle.std.specs.List.Sorted.{IsPartitionPoint, IsPartitionedBy}
use Rattle.cif_views.proofs.Names.{codes, eq-or-lt_of_le, get_or_default, option_map}
use Rattle.std.specs.Prelude.{unwrap_or}
use Rattle.std.proofs.lemmas.List.{drop_more, take-append-le}
use Rattle.cif_views.specs.Boards.{name_in}
use Rattle.cif_views.specs.Places.{name_of, tiploc_of}
use Rattle.std.proofs.Math.Bool.{or-true}
use Rattle.cif_views.proofs.Names.{cases_lt, inl, inr, is_eq, nat_eq, nat_list_cmp_total, texts_ties, ◌-◌, ◌||◌}
use Rattle.cif_records.specs.declared.tiploc.Tiploc.{Tiploc}

-- ---- a total order

module _ {K : Type 0} (cmp : K → K → Ordering) (total : IsTotalOrder cmp) where
  -- of two keys in order, the second doesn't compare lower with a third
  by-answers : (a b x : K) (one other : Ordering) → one ≡ cmp a x → other ≡ cmp b x → is_lt (cmp b a) ≡ false →
      ordering_index one ≤ ordering_index other
  by-answers a b x Less other one is order = omega arith
  by-answers a b x Equal Equal one is order = omega arith
  by-answers a b x Equal Greater one is order = omega arith
  by-answers a b x Greater Greater one is order = omega arith
  by-answers a b x Greater Less one is order =
      let below : cmp x a ≡ Less = total.antisymm x a ∙ ap ordering_reverse (sym one) in
      absurd (false≢true (sym order ∙ ap is_lt (total.trans b x a (sym is) below)))
  by-answers a b x Equal Less one is order =
      let same : cmp a b ≡ cmp x b = total.congr a x b (sym one) in
      let above : cmp x b ≡ Greater = total.antisymm x b ∙ ap ordering_reverse (sym is) in
      let below : cmp b a ≡ Less = total.antisymm b a ∙ ap ordering_reverse (same ∙ above) in
      absurd (false≢true (sym order ∙ ap is_lt below))
  by-answers a b x Greater Equal one is order =
      let same : cmp b a ≡ cmp x a = total.congr b x a (sym is) in
      let below : cmp x a ≡ Less = total.antisymm x a ∙ ap ordering_reverse (sym one) in
      absurd (false≢true (sym order ∙ ap is_lt (same ∙ below)))

  pub rises : (a b x : K) → is_lt (cmp b a) ≡ false → ordering_index (cmp a x) ≤ ordering_index (cmp b x)
  rises a b x order = by-answers a b x (cmp a x) (cmp b x) refl refl order

-- ---- the first columns of what rises

not-less : (o : Ordering) → o ≡ Equal → is_lt o ≡ false
not-less o is = ap is_lt is

heads : (n : ℕ) (o : Ordering) (x y : ℕ) (s t : List ℕ) → o ≡ nat_cmp y x → slice_cmp nat_cmp (x ∷ s) (y ∷ t) ≡ Less →
    (slice_cmp nat_cmp s t ≡ Less → is_lt (slice_cmp nat_cmp (take n t) (take n s)) ≡ false) →
    is_lt (ordering_then o (slice_cmp nat_cmp (take n t) (take n s))) ≡ false
heads n Less x y s t is less more =
    let above : nat_cmp x y ≡ Greater = nat_cmp_total.antisymm x y ∙ ap ordering_reverse (sym is) in
    absurd (not-greater (sym (ap (λ o. ordering_then o (slice_cmp nat_cmp s t)) above) ∙ less))
  where
    not-greater : Greater ≡ Less → ⊥
    not-greater e = cc
heads n Equal x y s t is less more =
    let same : nat_cmp x y ≡ Equal = nat_cmp_total.antisymm x y ∙ ap ordering_reverse (sym is) in
    more (sym (ap (λ o. ordering_then o (slice_cmp nat_cmp s t)) same) ∙ less)
heads n Greater x y s t is less more = refl

pub prefixes : (n : ℕ) (s t : List ℕ) → slice_cmp nat_cmp s t ≡ Less → is_lt (slice_cmp nat_cmp (take n t) (take n s)) ≡ false
prefixes zero s t less = refl
prefixes (suc n) [] [] less = refl
prefixes (suc n) [] (y ∷ t) less = refl
prefixes (suc n) (x ∷ s) [] less = absurd (none less)
  where
    none : Greater ≡ Less → ⊥
    none e = cc
prefixes (suc n) (x ∷ s) (y ∷ t) less = heads n (nat_cmp y x) x y s t refl less (prefixes n s t)

-- ---- the first that passes

module _ {X : Type 0} (test : X → Bool) where
  pub find-after : (xs : List X) (i : ℕ) → ((k : ℕ) (d : X) → k < i → k < length xs → test (get_or xs k d) ≡ false) →
      find test xs ≡ find test (drop i xs)
  find-after xs zero none = refl
  find-after [] (suc i) none = refl
  find-after (x ∷ xs) (suc i) none =
      ap (λ (b : Bool). if b then Some x else find test xs) (none 0 x (omega arith) (omega arith))
      ∙ find-after xs i (λ k d below within. none (suc k) d (omega (arith, below)) (omega (arith, within)))

  pub find-none : (xs : List X) → ((k : ℕ) (d : X) → k < length xs → test (get_or xs k d) ≡ false) → find test xs ≡ None
  find-none [] none = refl
  find-none (x ∷ xs) none =
      ap (λ (b : Bool). if b then Some x else find test xs) (none 0 x (omega arith))
      ∙ find-none xs (λ k d within. none (suc k) d (omega (arith, within)))

-- ---- a binary search

-- an index of an ordering is below the next
adjacent : {X : Type 0} (f : X → ℕ) (xs : List X) → ((k : ℕ) (d : X) → k + 1 < length xs → f (get_or xs k d) ≤ f (get_or xs (k + 1) d)) →
    (i n : ℕ) (d : X) → i + n < length xs → f (get_or xs i d) ≤ f (get_or xs (i + n) d)
adjacent f xs next i zero d within =
    let same : i ≡ i + 0 = omega arith in
    omega (arith, ap (λ k. f (get_or xs k d)) same)
adjacent f xs next i (suc n) d within =
    let before = adjacent f xs next i n d (omega (arith, within)) in
    let one = next (i + n) d (omega (arith, within)) in
    let same : i + n + 1 ≡ i + suc n = omega arith in
    omega (arith, before, one, ap (λ k. f (get_or xs k d)) same)

pub sorted-rises : {K : Type 0} (cmp : K → K → Ordering) (total : IsTotalOrder cmp) (xs : List K) (x : K) → IsSorted cmp xs →
    IsNonDecreasingBy (λ y. ordering_index (cmp y x)) xs
sorted-rises cmp total xs x sorted i j d upto below =
    let n = j - i in
    let is : i + (j - i) ≡ j = omega (arith, upto) in
    let rise = adjacent (λ y. ordering_index (cmp y x)) xs
    (λ k e within. rises cmp total (get_or xs k e) (get_or xs (k + 1) e) x (sorted k e (omega arith) within)) i (j - i) d
    (omega (arith, is, below)) in
    omega (arith, rise, ap (λ k. ordering_index (cmp (get_or xs k d) x)) is)

any-at : {X : Type 0} (test : X → Bool) (xs : List X) (i : ℕ) (d : X) → i < length xs → test (get_or xs i d) ≡ true → list_any test xs ≡ true
any-at test [] i d within is = absurd (omega (arith, within))
any-at test (x ∷ xs) zero d within is = ap (λ b. b || list_any test xs) is
any-at test (x ∷ xs) (suc i) d within is =
    ap (λ b. test x || b) (any-at test xs i d (omega (arith, within)) is) ∙ or-true (test x)

any-none : {X : Type 0} (test : X → Bool) (xs : List X) → ((k : ℕ) (d : X) → k < length xs → test (get_or xs k d) ≡ false) →
    list_any test xs ≡ false
any-none test [] none = refl
any-none test (x ∷ xs) none =
    ap (λ b. b || list_any test xs) (none 0 x (omega arith)) ∙ any-none test xs (λ k d within. none (suc k) d (omega (arith, within)))

-- how a text compares with another says whether they are equal
pub equal-by : (x y : List ℕ) (o : Ordering) → slice_cmp nat_cmp y x ≡ o → pointwise nat_eq x y ≡ is_eq (ordering_reverse o)
equal-by x y o is = texts_ties x y ∙ ap is_eq (nat_list_cmp_total.antisymm x y ∙ ap ordering_reverse is)

pub searched : (xs : List (List ℕ)) (x : List ℕ) (r : Result ℕ ℕ) → IsSearchInRange r (length xs) →
    IsBinarySearchResult (λ y. slice_cmp nat_cmp y x) xs r → IsSorted (slice_cmp nat_cmp) xs → is_ok r ≡ list_any (pointwise nat_eq x) xs
searched xs x (Ok i) bound at sorted = sym (any-at (pointwise nat_eq x) xs i x bound (equal-by x (get_or xs i x) Equal (at x)))
searched xs x (Err i) bound at sorted =
    let (below, above) = at (sorted-rises (slice_cmp nat_cmp) nat_list_cmp_total xs x sorted) in
    sym (any-none (pointwise nat_eq x) xs (λ k d within.
    elim (cases_lt k i) [
      | inl less ↦ equal-by x (get_or xs k d) Less (below k d (omega arith) less)
      | inr from ↦ equal-by x (get_or xs k d) Greater (above k d from within)
    ]))

-- ---- the name of a location

module _ (ts : List Tiploc) (rising : AllPairs (λ s t. slice_cmp nat_cmp s.columns t.columns ≡ Less) ts) (location : List ℕ) where
  -- where a TI stands against this TIPLOC
  abbrev pub standing : Tiploc → Ordering
  standing t = slice_cmp nat_cmp (tiploc_of t) location

  own : (t : Tiploc) → tiploc_of t ≡ take 7 t.columns
  own t = take-append-le 7 t.columns (codes "        ") (let wide = t.wide in omega (arith, wide))

  apart : (i j : ℕ) (d : Tiploc) → i ≤ j → j < length ts → ordering_index (standing (get_or ts i d)) ≤ ordering_index (standing (get_or ts j d))
  apart i j d upto within =
      elim (eq-or-lt_of_le upto) [
        | inl same ↦ (let e = ap (λ k. ordering_index (standing (get_or ts k d))) same in omega (arith, e))
        | inr less ↦ rises (slice_cmp nat_cmp) nat_list_cmp_total (tiploc_of (get_or ts i d)) (tiploc_of (get_or ts j d)) location
            (rw (own (get_or ts i d), own (get_or ts j d)) (prefixes 7 (get_or ts i d).columns (get_or ts j d).columns (rising i j d less within)))
      ]

  pub parted : IsPartitionedBy (λ t. is_lt (standing t)) ts
  parted i j d upto within less = below (standing (get_or ts i d)) (standing (get_or ts j d)) refl refl
    where
      below : (one other : Ordering) → one ≡ standing (get_or ts i d) → other ≡ standing (get_or ts j d) → is_lt (standing (get_or ts i d)) ≡ true
      below Less other is o = sym (ap is_lt is)
      below one Less is o = (let a = apart i j d upto within in at-first one is o a)
        where
          at-first : (x : Ordering) → x ≡ standing (get_or ts i d) → Less ≡ standing (get_or ts j d)
              → ordering_index (standing (get_or ts i d)) ≤ ordering_index (standing (get_or ts j d)) → is_lt (standing (get_or ts i d)) ≡ true
          at-first Less is o a = sym (ap is_lt is)
          at-first Equal is o a = (let x = ap ordering_index is in let y = ap ordering_index o in absurd (omega (arith, a, x, y)))
          at-first Greater is o a = (let x = ap ordering_index is in let y = ap ordering_index o in absurd (omega (arith, a, x, y)))
      below one Equal is o = absurd (false≢true (ap is_lt o ∙ less))
      below one Greater is o = absurd (false≢true (ap is_lt o ∙ less))

  abbrev has_tiploc : Tiploc → Bool
  has_tiploc t = pointwise nat_eq (tiploc_of t) location

  not-equal : (o : Ordering) → is_lt o ≡ true → is_eq o ≡ false
  not-equal Less less = refl
  not-equal Equal less = absurd (false≢true less)
  not-equal Greater less = refl

  above : (o later : Ordering) → is_lt o ≡ false → is_eq o ≡ false → ordering_index o ≤ ordering_index later → is_eq later ≡ false
  above Less later less equal upto = absurd (false≢true (sym less))
  above Equal later less equal upto = absurd (false≢true (sym equal))
  above Greater Less less equal upto = refl
  above Greater Equal less equal upto = absurd (omega (arith, upto))
  above Greater Greater less equal upto = refl

  module _ (i : ℕ) (point : IsPartitionPoint (λ t. is_lt (standing t) ≡ true) (λ t. is_lt (standing t) ≡ false) ts i) where
    before : (k : ℕ) (d : Tiploc) → k < i → has_tiploc (get_or ts k d) ≡ false
    before k d below = texts_ties (tiploc_of (get_or ts k d)) location ∙ not-equal (standing (get_or ts k d)) (point.0 k d (omega arith) below)

    pub found-at : (t : Tiploc) → i < length ts → t ≡ get_or ts i t → has_tiploc t ≡ true → name_in ts location ≡ name_of t
    found-at t within is same =
        ap (λ o. unwrap_or (option_map name_of o) (codes "                          "))
        (find-after has_tiploc ts i (λ k d below _. before k d below)
        ∙ ap (find has_tiploc) (drop_more ts i t within)
        ∙ ap (λ u. if has_tiploc u then Some u else find has_tiploc (drop (i + 1) ts)) (sym is)
        ∙ ap (λ (b : Bool). if b then Some t else find has_tiploc (drop (i + 1) ts)) same)

    none : ((k : ℕ) (d : Tiploc) → i ≤ k → k < length ts → has_tiploc (get_or ts k d) ≡ false) →
        name_in ts location ≡ codes "                          "
    none after =
        ap (λ o. unwrap_or (option_map name_of o) (codes "                          "))
        (find-none has_tiploc ts (λ k d within. elim (cases_lt k i) [ inl less ↦ before k d less | inr from ↦ after k d from within ]))

    pub none-at : (t : Tiploc) → i < length ts → t ≡ get_or ts i t → has_tiploc t ≡ false → name_in ts location ≡ codes "                          "
    none-at t within is differs =
        let less = ap (λ u. is_lt (standing u)) is ∙ point.1 i t (omega arith) within in
        let equal = sym (texts_ties (tiploc_of t) location) ∙ differs in
        none (λ k d from below.
        texts_ties (tiploc_of (get_or ts k d)) location
        ∙ above (standing t) (standing (get_or ts k d)) less equal
        (subst (λ u. ordering_index (standing u) ≤ ordering_index (standing (get_or ts k d))) (default t d within is) (apart i k d from below)))
      where
        default : (t d : Tiploc) → i < length ts → t ≡ get_or ts i t → get_or ts i d ≡ t
        default t d within is = get_or_default ts i d t within ∙ sym is

    pub none-after : length ts ≤ i → name_in ts location ≡ codes "                          "
    none-after over = none (λ k d from within. absurd (omega (arith, over, from, within)))
