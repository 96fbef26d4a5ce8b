-- The rows of a pair go field by field, and two extracts have one list of differences.
use Rattle.cif_views.proofs.Names.{AreDifferences, AreDifferentRecords, AreDifferentTiplocs, AreRowsOfFields, Bool, ComesBefore, Contains}
use Rattle.cif_views.proofs.Names.{DifferencesParts, ExtractParts, IsOneWay, IsRowOfField, IsTotalOrder, Left, Less, List, Ordering}
use Rattle.cif_views.proofs.Names.{Permanent, Right, Side, Sided, TableFields, Terms, Tiploc, Two, Window, [], arith, bytes_decides}
use Rattle.cif_views.proofs.Names.{differing_row, false, false≢true, from-side, if◌then◌else◌, inl, inr, key_cmp, keys-total, less_one_way}
use Rattle.cif_views.proofs.Names.{nat_cmp, nat_eq, nat_list_cmp_total, not_less, of_side, pointwise, refl, same_members}
use Rattle.cif_views.proofs.Names.{side-member, slice_cmp, subst, sym, true, ℕ, ◌∙◌, ◌≡◌}
use Rattle.cif_views.proofs.Names.{◌∷◌}
use Rattle.cif_views.proofs.RowNames.{Value, cell_of}
use Rattle.cif_weeks.proofs.UniqueByKey.{unique_same}

-- a field's row, by whether its cells are the same
module _ (start : List Value) (left right name : List ℕ) (field : List ℕ → Value) where
  by-test : (test : Bool) → pointwise nat_eq (cell_of (field left)) (cell_of (field right)) ≡ test →
      IsRowOfField start left right name field (if test then [] else (differing_row start name (field left) (field right) ∷ []))
  by-test true is = record { differs = λ differ. absurd (differ ((bytes_decides _ _).0 is)); same = λ same. refl }
  by-test false is = record { differs = λ differ. refl; same = λ same. absurd (false≢true (sym is ∙ (bytes_decides _ _).1 same)) }

pub rows-of-fields : (start : List Value) (fields : TableFields (List ℕ)) (left right : List ℕ) → AreRowsOfFields start fields left right
rows-of-fields start fields left right = record {
  rows = λ f. if pointwise nat_eq (cell_of (f.1 left)) (cell_of (f.1 right)) then []
      else (differing_row start f.0 (f.1 left) (f.1 right) ∷ []);
  each = λ f. by-test start left right f.0 f.1 (pointwise nat_eq (cell_of (f.1 left)) (cell_of (f.1 right))) refl;
  all = refl;
}

-- the two sides are not one
not-both : (side : Side) → side ≡ Left → side ≡ Right → ⊥
not-both side left right = let same : Left ≡ Right = sym left ∙ right in absurd (cc)

module _ {K B : Type 0} (cmp : K → K → Ordering) (total : IsTotalOrder cmp) where
  comes-one-way : IsOneWay (ComesBefore {K = K} {B = B} cmp)
  comes-one-way s t (inl (inl up)) (inl (inl down)) = less_one_way cmp total s.it.0 t.it.0 up down
  comes-one-way s t (inl (inl up)) (inl (inr down)) = not_less cmp total s.it.0 t.it.0 (sym down.0) up
  comes-one-way s t (inl (inr up)) (inl (inl down)) = not_less cmp total t.it.0 s.it.0 (sym up.0) down
  comes-one-way s t (inl (inr up)) (inl (inr down)) = let a = up.1 in let b = down.1 in omega (arith, a, b)
  comes-one-way s t (inl (inl up)) (inr (key, first, left, right)) = not_less cmp total s.it.0 t.it.0 (sym key) up
  comes-one-way s t (inl (inr up)) (inr (key, first, left, right)) = let a = up.1 in omega (arith, a, first)
  comes-one-way s t (inr (key, first, left, right)) (inl (inl down)) = not_less cmp total t.it.0 s.it.0 (sym key) down
  comes-one-way s t (inr (key, first, left, right)) (inl (inr down)) = let a = down.1 in omega (arith, a, first)
  comes-one-way s t (inr (key, first, left, right)) (inr (_, _, _, other)) = not-both s.side left other

  module _ (window : Window) (xs ys : List (K × Terms B)) where
    -- what one side has, the other list has too
    members : (found other : List (Sided (K × Permanent B))) → AreDifferentRecords cmp window xs ys found →
        AreDifferentRecords cmp window xs ys other → (s : Sided (K × Permanent B)) → Contains found s → Contains other s
    members found other a b s in_found =
        let one = a.only s.side in
        let two = b.only s.side in
        let same = unique_same cmp total Two window (of_side s.side found) (of_side s.side other) one.canonical two.canonical (record {
          same = λ k. record {
            same = λ d body within. let (p, q) = one.exact k d body within in let (u, v) = two.exact k d body within in
                (λ h. v (p h), λ h. q (u h));
          };
        }) in
        from-side s.side other s.it (subst (λ (l : List (K × Permanent B)). Contains l s.it) same (side-member found s in_found))

    records-once : (found other : List (Sided (K × Permanent B))) → AreDifferentRecords cmp window xs ys found →
        AreDifferentRecords cmp window xs ys other → found ≡ other
    records-once found other a b =
        same_members (ComesBefore cmp) comes-one-way found other a.in_order b.in_order (members found other a b) (members other found b a)

tiplocs-once : (xs ys : List Tiploc) (found other : List (Sided Tiploc)) → AreDifferentTiplocs xs ys found →
    AreDifferentTiplocs xs ys other → found ≡ other
tiplocs-once xs ys found other a b =
    same_members (λ (s t : Sided Tiploc). slice_cmp nat_cmp s.it.columns t.it.columns ≡ Less)
    (λ s t. less_one_way (slice_cmp nat_cmp) nat_list_cmp_total s.it.columns t.it.columns) found other a.rising b.rising
    (λ s in_found. (b.only s).1 ((a.only s).0 in_found)) (λ s in_other. (a.only s).1 ((b.only s).0 in_other))

pub differences-once : (x y : ExtractParts) (d e : DifferencesParts) → AreDifferences x y d → AreDifferences x y e → d ≡ e
differences-once x y d e a b =
    rw (
      tiplocs-once x.tiplocs y.tiplocs d.tiplocs e.tiplocs a.tiplocs b.tiplocs,
      records-once key_cmp keys-total _ _ _ d.associations e.associations a.associations b.associations,
      records-once (slice_cmp nat_cmp) nat_list_cmp_total _ _ _ d.schedules e.schedules a.schedules b.schedules,
    ) refl
