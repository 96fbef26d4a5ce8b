-- Locations that are sorted, and each kept once, rise strictly and are the same.
use Rattle.cif_canon.proofs.Names.{All, All-cons, All-nil, AllByRecursion, AllPairs, AllPairs-cons, AreDistinct, Contains-dedup}
use Rattle.cif_canon.proofs.Names.{Contains-from_dedup, Contains-permutation, IsPermutation, IsPermutation-sym, IsSorted}
use Rattle.cif_canon.proofs.Names.{IsStrictlySortedBy-dedup, Less, List, Ordering, Tiploc, [], arith, bytes_decides, dedup, nat_cmp, nat_eq}
use Rattle.cif_canon.proofs.Names.{nat_list_cmp_total, on_texts_equal, on_total, pointwise, same_tiploc, slice_cmp, subst, sym, texts_ties}
use Rattle.cif_canon.proofs.Names.{◌∷◌, ◌≡◌}
use Rattle.std.proofs.lemmas.List.Filters.{dedup_is}
use Rattle.std.specs.{List.Retain.DiffersFromLast, List.Retain.IsFiltered, List.Sorted.IsStrictlySortedBy}

-- what is sorted strictly rises strictly
all-from : {X : Type 0} (P : X → Type 0) (xs : List X) → AllByRecursion P xs → All P xs
all-from P [] h = All-nil P
all-from P (x ∷ xs) h = All-cons P x xs h.0 (all-from P xs h.1)

pairs-from : {X : Type 0} (cmp : X → X → Ordering) (xs : List X) → IsStrictlySortedBy cmp xs → AllPairs (λ x y. cmp x y ≡ Less) xs
unfolding IsStrictlySortedBy
pairs-from cmp [] h = λ i j d below lt. absurd (omega (arith, lt))
pairs-from cmp (x ∷ xs) h = AllPairs-cons (λ x y. cmp x y ≡ Less) x xs (all-from (λ y. cmp x y ≡ Less) xs h.0) (pairs-from cmp xs h.1)

-- the order and the equality of locations, by their columns
abbrev by_columns : Tiploc → Tiploc → Ordering
by_columns s t = slice_cmp nat_cmp s.columns t.columns

pub distinct : (tiplocs sorted kept : List Tiploc) → IsPermutation tiplocs sorted → IsSorted by_columns sorted →
    IsFiltered (DiffersFromLast (λ (s t : Tiploc). pointwise nat_eq s.columns t.columns)) [] sorted kept → AreDistinct tiplocs kept
distinct tiplocs sorted kept same rises filtered =
    let E = λ (s t : Tiploc). pointwise nat_eq s.columns t.columns in
    let is : kept ≡ dedup E sorted = dedup_is E sorted kept filtered in
    let ties = λ (s t : Tiploc). texts_ties s.columns t.columns in
    subst (AreDistinct tiplocs) (sym is) (record {
      rising = pairs-from by_columns (dedup E sorted)
          (IsStrictlySortedBy-dedup (on_total (λ (t : Tiploc). t.columns) nat_list_cmp_total) ties sorted rises);
      members = λ t. (
        λ h. Contains-dedup (on_texts_equal (λ (s : Tiploc). s.columns))
            (λ s u e. same_tiploc s u ((bytes_decides s.columns u.columns).0 e)) sorted t
            (Contains-permutation tiplocs sorted t same h),
        λ h. Contains-permutation sorted tiplocs t (IsPermutation-sym tiplocs sorted same) (Contains-from_dedup E sorted t h),
      );
    })
