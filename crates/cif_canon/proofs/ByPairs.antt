-- The function takes the pairs of records that are in order: nothing stands between the two of a pair.
use Rattle.cif_canon.proofs.Names.{AllPairs, AreByPairs, AreDifferences, ArePair, AssocKey, Bool, ComesBefore, Contains, Contains-cases}
use Rattle.cif_canon.proofs.Names.{Contains-first, Contains-none, Contains-rest, Decides, DifferencesParts, Equal, ExtractParts, Greater}
use Rattle.cif_canon.proofs.Names.{IsTotalOrder, IsTrue, Left, Less, List, Listed, None, Option, Ordering, Permanent, Precedes, Right, Side}
use Rattle.cif_canon.proofs.Names.{Sided, Some, [], ap, ap₂, are_pair, arith, by_pairs, bytes_decides, common_steps, cond_both, false}
use Rattle.cif_canon.proofs.Names.{false≢true, inl, inr, is_eq, is_side, key_cmp, nat_cmp, nat_eq, nat_list_cmp_total, not_less}
use Rattle.cif_canon.proofs.Names.{ordering_then, pointwise, pointwise_decides, refl, rules, same_Some, same_key-cmp, slice_cmp, subst, sym}
use Rattle.cif_canon.proofs.Names.{texts_ties, true≢false, ℕ, ⊎_elim, ◌&&◌, ◌↔◌, ◌∙◌, ◌∷◌, ◌≡◌, ◌⊎◌}
use Rattle.std.specs.Prelude.{⊤}
use Rattle.cif_canon.proofs.{MergedSides.pairs-head, MergedSides.pairs-tail, PairedRecords.keys-decided, PairedRecords.pair-decided}
use Rattle.cif_canon.proofs.{Unique.keys-total}

left≢right : Left ≡ Right → ⊥
left≢right e = true≢false (ap (is_side Left) e)

none≢some : {A : Type 0} (a : A) → None ≡ Some a → ⊥
none≢some a e = cc

module _ {K B : Type 0} (cmp : K → K → Ordering) (total : IsTotalOrder cmp) where
  -- ---- records in order

  apart : (p q : K × Permanent B) → p.0 ≡ q.0 → p.1.first ≡ q.1.first → Precedes cmp p q → ⊥
  apart p q key first (inl less) = not_less cmp total p.0 q.0 key less
  apart p q key first (inr (same, less)) = omega (arith, first, less)

  between : (p q r : K × Permanent B) → p.0 ≡ r.0 → p.1.first ≡ r.1.first → Precedes cmp p q → Precedes cmp q r → ⊥
  between p q r key first (inl a) (inl b) = not_less cmp total p.0 r.0 key (total.trans p.0 q.0 r.0 a b)
  between p q r key first (inl a) (inr (same, less)) = not_less cmp total p.0 q.0 (key ∙ sym same) a
  between p q r key first (inr (same, less)) (inl b) = not_less cmp total q.0 r.0 (sym same ∙ key) b
  between p q r key first (inr (one, less)) (inr (other, more)) = omega (arith, first, less, more)

  nothing-between : (s t u : Sided (K × Permanent B)) → ArePair s u → ComesBefore cmp s t → ComesBefore cmp t u → ⊥
  nothing-between s t u pair (inl a) (inl b) = between s.it t.it u.it pair.key pair.first a b
  nothing-between s t u pair (inl a) (inr (key, first, left, right)) = apart s.it t.it (pair.key ∙ sym key) (pair.first ∙ sym first) a
  nothing-between s t u pair (inr (key, first, left, right)) (inl b) = apart t.it u.it (sym key ∙ pair.key) (sym first ∙ pair.first) b
  nothing-between s t u pair (inr (key, first, left, right)) (inr (key2, first2, left2, right2)) = left≢right (sym left2 ∙ right)

  -- the left record of a pair comes first
  turned : (s t : Sided (K × Permanent B)) → ArePair t s → ComesBefore cmp s t → ⊥
  turned s t pair (inl a) = apart s.it t.it (sym pair.key) (sym pair.first) a
  turned s t pair (inr (key, first, left, right)) = left≢right (sym left ∙ pair.right)

  module _ (decides : (j k : K) → Decides (is_eq (cmp j k)) (j ≡ k)) where
    -- ---- what is listed, step by step

    -- a record is no pair with the next one
    abbrev IsNoPair : Sided (K × Permanent B) → List (Sided (K × Permanent B)) → Type 0
    IsNoPair s [] = ⊤
    IsNoPair s (t ∷ found) = are_pair cmp s t ≡ false

    module _ (P : List (Sided (K × Permanent B)) → List (Listed (K × Permanent B)) → Type 0) (none : P [] [])
        (one : (s : Sided (K × Permanent B)) (found : List (Sided (K × Permanent B))) (listed : List (Listed (K × Permanent B))) →
        IsNoPair s found → P found listed → P (s ∷ found) ((s, None) ∷ listed))
        (two : (s t : Sided (K × Permanent B)) (found : List (Sided (K × Permanent B))) (listed : List (Listed (K × Permanent B))) →
        ArePair s t → P found listed → P (s ∷ t ∷ found) ((s, Some t.it) ∷ listed)) where
      by-steps : (found : List (Sided (K × Permanent B))) → P found (by_pairs cmp found)
      by-steps [] = none
      by-steps (s ∷ []) = one s [] [] tt none
      by-steps (s ∷ t ∷ found) =
          cond_both (are_pair cmp s t) ((s, Some t.it) ∷ by_pairs cmp found) ((s, None) ∷ by_pairs cmp (t ∷ found)) (P (s ∷ t ∷ found))
          (λ yes. two s t found (by_pairs cmp found) ((pair-decided cmp decides s t).0 yes) (by-steps found))
          (λ no. one s (t ∷ found) (by_pairs cmp (t ∷ found)) no (by-steps (t ∷ found)))

    listed-cases : (s u : Sided (K × Permanent B)) (o x : Option (K × Permanent B)) (listed : List (Listed (K × Permanent B))) →
        Contains ((s, o) ∷ listed) (u, x) → ((s ≡ u) × (o ≡ x)) ⊎ Contains listed (u, x)
    listed-cases s u o x listed h = ⊎_elim
        (λ is. inl (ap (λ (l : Listed (K × Permanent B)). l.0) is, ap (λ (l : Listed (K × Permanent B)). l.1) is))
        (λ later. inr later)
        (Contains-cases (s, o) listed (u, x) h)

    -- records in order are listed by pairs, and those that are listed alone are among them
    record AreListed (found : List (Sided (K × Permanent B))) (listed : List (Listed (K × Permanent B))) : Type 0 where
      pub are : AreByPairs found listed
      pub there : (u : Sided (K × Permanent B)) → Contains listed (u, None) → Contains found u

    -- a record and a later one
    no-later : (s : Sided (K × Permanent B)) (found : List (Sided (K × Permanent B))) → AllPairs (ComesBefore cmp) (s ∷ found) →
        IsNoPair s found → (v : Sided (K × Permanent B)) → Contains found v → ArePair s v → ⊥
    no-later s [] order differ v h pair = Contains-none v h
    no-later s (t ∷ found) order differ v h pair = ⊎_elim
        (λ e. false≢true (sym differ ∙ (pair-decided cmp decides s t).1 (subst (λ w. ArePair s w) (sym e) pair)))
        (λ later. nothing-between s t v pair
        (pairs-head (ComesBefore cmp) s t (t ∷ found) order (Contains-first t found))
        (pairs-head (ComesBefore cmp) t v found (pairs-tail (ComesBefore cmp) s (t ∷ found) order) later))
        (Contains-cases t found v h)

    one-more : (s : Sided (K × Permanent B)) (found : List (Sided (K × Permanent B))) (listed : List (Listed (K × Permanent B))) →
        AllPairs (ComesBefore cmp) (s ∷ found) → IsNoPair s found → AreListed found listed → AreListed (s ∷ found) ((s, None) ∷ listed)
    one-more s found listed order differ l = record {
      are = record {
        parts = ap (λ (l : List (Sided (K × Permanent B))). s ∷ l) l.are.parts;
        pairs = λ u r h. ⊎_elim (λ e. absurd (none≢some r e.1)) (λ later. l.are.pairs u r later) (listed-cases s u None (Some r) listed h);
        others = λ u v in_u in_v pair. ⊎_elim
            (λ e. ⊎_elim
            (λ f. left≢right (sym pair.left ∙ ap (λ (w : Sided (K × Permanent B)). w.side) (sym e.0 ∙ f.0) ∙ pair.right))
            (λ later. no-later s found order differ v (l.there v later) (subst (λ w. ArePair w v) (sym e.0) pair))
            (listed-cases s v None None listed in_v))
            (λ later. ⊎_elim
            (λ f. turned s u (subst (λ w. ArePair u w) (sym f.0) pair)
            (pairs-head (ComesBefore cmp) s u found order (l.there u later)))
            (λ last. l.are.others u v later last pair)
            (listed-cases s v None None listed in_v))
            (listed-cases s u None None listed in_u);
      };
      there = λ u h. ⊎_elim
          (λ e. subst (λ v. Contains (s ∷ found) v) e.0 (Contains-first s found))
          (λ later. Contains-rest s found u (l.there u later))
          (listed-cases s u None None listed h);
    }

    two-more : (s t : Sided (K × Permanent B)) (found : List (Sided (K × Permanent B))) (listed : List (Listed (K × Permanent B))) →
        ArePair s t → AreListed found listed → AreListed (s ∷ t ∷ found) ((s, Some t.it) ∷ listed)
    two-more s t found listed pair l = record {
      are = record {
        parts = ap (λ (l : List (Sided (K × Permanent B))). s ∷ record { side = Right; it = t.it } ∷ l) l.are.parts
            ∙ ap (λ (side : Side). s ∷ record { side = side; it = t.it } ∷ found) (sym pair.right);
        pairs = λ u r h. ⊎_elim
            (λ e. subst (λ (v : Sided (K × Permanent B)). ArePair v (record { side = Right; it = r })) e.0
            (subst (λ (p : K × Permanent B). ArePair s (record { side = Right; it = p })) (same_Some t.it r e.1)
            (subst (λ (side : Side). ArePair s (record { side = side; it = t.it })) pair.right pair)))
            (λ later. l.are.pairs u r later)
            (listed-cases s u (Some t.it) (Some r) listed h);
        others = λ u v in_u in_v. l.are.others u v (behind u in_u) (behind v in_v);
      };
      there = λ u h. Contains-rest s (t ∷ found) u (Contains-rest t found u (l.there u (behind u h)));
    } where
      behind : (u : Sided (K × Permanent B)) → Contains ((s, Some t.it) ∷ listed) (u, None) → Contains listed (u, None)
      behind u h = ⊎_elim (λ e. absurd (none≢some t.it (sym e.1))) (λ later. later) (listed-cases s u (Some t.it) None listed h)

    pub are-by_pairs : (found : List (Sided (K × Permanent B))) → AllPairs (ComesBefore cmp) found → AreByPairs found (by_pairs cmp found)
    are-by_pairs found order = (by-steps (λ found listed. AllPairs (ComesBefore cmp) found → AreListed found listed)
        (λ order. record {
          are = record {
            parts = refl;
            pairs = λ u r h. absurd (Contains-none (u, Some r) h);
            others = λ u v h. absurd (Contains-none (u, None) h);
          };
          there = λ u h. absurd (Contains-none (u, None) h);
        })
        (λ s found listed differ l order. one-more s found listed order differ (l (pairs-tail (ComesBefore cmp) s found order)))
        (λ s t found listed pair l order. two-more s t found listed pair
        (l (pairs-tail (ComesBefore cmp) t found (pairs-tail (ComesBefore cmp) s (t ∷ found) order))))
        found order).are

-- ---- the keys of associations and of schedules are equal where they compare equal

then-equal : (o p : Ordering) → is_eq (ordering_then o p) ≡ (is_eq o && is_eq p)
then-equal Less p = refl
then-equal Equal p = refl
then-equal Greater p = refl

tie : (xs ys : List ℕ) (r : Bool) (p : Ordering) → r ≡ is_eq p →
    (pointwise nat_eq xs ys && r) ≡ is_eq (ordering_then (slice_cmp nat_cmp xs ys) p)
tie xs ys r p h = ap₂ (λ a b. a && b) (texts_ties xs ys) h ∙ sym (then-equal (slice_cmp nat_cmp xs ys) p)

abbrev key_eq : AssocKey → AssocKey → Bool
key_eq a b =
    pointwise nat_eq a.base b.base
    && (pointwise nat_eq a.associated b.associated
    && (pointwise nat_eq a.location b.location
    && (pointwise nat_eq a.base_suffix b.base_suffix && pointwise nat_eq a.associated_suffix b.associated_suffix)))

key-matches : (a b : AssocKey) → key_eq a b ≡ is_eq (key_cmp a b)
key-matches a b =
    tie a.base b.base _ _ (tie a.associated b.associated _ _ (tie a.location b.location _ _
    (tie a.base_suffix b.base_suffix _ _ (texts_ties a.associated_suffix b.associated_suffix))))

key-same : (a b : AssocKey) → IsTrue (key_eq a b) ↔ (a ≡ b)
key-same a b = search (rules, common_steps, pointwise_decides, bytes_decides)

-- keys that compare as equal are the same
pub same-keys : (j k : AssocKey) → key_cmp j k ≡ Equal → j ≡ k
same-keys = same_key-cmp key_eq key_cmp key-matches key-same

pub associations-by_pairs : (x y : ExtractParts) (d : DifferencesParts) → AreDifferences x y d →
    AreByPairs d.associations (by_pairs key_cmp d.associations)
associations-by_pairs x y d h =
    are-by_pairs key_cmp keys-total (keys-decided key_eq key_cmp key-matches key-same) d.associations h.associations.in_order

pub schedules-by_pairs : (x y : ExtractParts) (d : DifferencesParts) → AreDifferences x y d →
    AreByPairs d.schedules (by_pairs (slice_cmp nat_cmp) d.schedules)
schedules-by_pairs x y d h =
    are-by_pairs (slice_cmp nat_cmp) nat_list_cmp_total
    (keys-decided (pointwise nat_eq) (slice_cmp nat_cmp) texts_ties bytes_decides) d.schedules h.schedules.in_order
