-- Locations by their columns, and the first that only one of two lists has.
use Rattle.cif_canon.proofs.Names.{AreDifferentTiplocs, Contains, Contains-cases, Contains-first, Contains-none, Contains-rest, Equal}
use Rattle.cif_canon.proofs.Names.{Greater, IsFirstTiploc, IsOnlyIn, Left, Less, List, None, Right, Side, Sided, Some, Tiploc, [], ap}
use Rattle.cif_canon.proofs.Names.{bytes_decides, inl, inr, is_eq, less_one_way, nat_cmp, nat_list_cmp_total, not_less, on_total}
use Rattle.cif_canon.proofs.Names.{ordering_reverse, refl, same_Some, same_tiploc, slice_cmp, slice_get, subst, texts_ties, ⊎_elim, ◌↔◌}
use Rattle.cif_canon.proofs.{MergedSides.pairs-head, Names.◌∙◌, Names.◌∷◌, Names.◌≡◌, Names.◌⊎◌}
use Rattle.cif_calendar.proofs.KeyTurns.{decided}

-- one location comes before another
abbrev pub Before : Tiploc → Tiploc → Type 0
Before s t = slice_cmp nat_cmp s.columns t.columns ≡ Less

pub not-itself : (t : Tiploc) → Before t t → ⊥
not-itself t h = not_less (slice_cmp nat_cmp) nat_list_cmp_total t.columns t.columns refl h

one-way : (s t : Tiploc) → Before s t → Before t s → ⊥
one-way s t h k = less_one_way (slice_cmp nat_cmp) nat_list_cmp_total s.columns t.columns h k

-- a location that compares as equal is the same
pub equal-tiplocs : (s t : Tiploc) → slice_cmp nat_cmp s.columns t.columns ≡ Equal → s ≡ t
equal-tiplocs s t e = same_tiploc s t ((bytes_decides s.columns t.columns).0 (texts_ties s.columns t.columns ∙ ap is_eq e))

-- and one that is greater has the other before it
pub before-greater : (s t : Tiploc) → slice_cmp nat_cmp s.columns t.columns ≡ Greater → Before t s
before-greater s t e = nat_list_cmp_total.antisymm t.columns s.columns ∙ ap ordering_reverse e

pub has-or-not : (xs : List Tiploc) (t : Tiploc) → Contains xs t ⊎ (Contains xs t → ⊥)
has-or-not [] t = inr (λ h. Contains-none t h)
has-or-not (x ∷ xs) t = ⊎_elim
    (λ is. inl (subst (λ u. Contains (x ∷ xs) u) is (Contains-first x xs)))
    (λ apart. ⊎_elim
    (λ later. inl (Contains-rest x xs t later))
    (λ none. inr (λ h. ⊎_elim (λ is. apart is) (λ later. none later) (Contains-cases x xs t h)))
    (has-or-not xs t))
    (decided (λ (u v : Tiploc). slice_cmp nat_cmp u.columns v.columns) (on_total (λ (u : Tiploc). u.columns) nat_list_cmp_total)
    equal-tiplocs x t (slice_cmp nat_cmp x.columns t.columns) refl)

-- a location with a side
abbrev pub with_side : Side → Tiploc → Sided Tiploc
with_side side t = record { side = side; it = t }

-- the first of the locations that only one of two lists has
module _ (xs ys : List Tiploc) (s : Sided Tiploc) (found : List (Sided Tiploc)) (a : AreDifferentTiplocs xs ys (s ∷ found)) where
  in-one : (side : Side) (t : Tiploc) → IsOnlyIn xs ys (with_side side t) → (Contains xs t × ¬ Contains ys t) ⊎
      (Contains ys t × ¬ Contains xs t)
  in-one Left t only = inl only
  in-one Right t only = inr only

  -- none of them is before it
  not-before : (side : Side) (t : Tiploc) → Before t s.it → IsOnlyIn xs ys (with_side side t) → ⊥
  not-before side t less only = ⊎_elim
      (λ is. not-itself t (subst (λ (u : Sided Tiploc). Before t u.it) is less))
      (λ later. one-way t s.it less (pairs-head (λ (u v : Sided Tiploc). Before u.it v.it) s (with_side side t) found a.rising later))
      (Contains-cases s found (with_side side t) ((a.only (with_side side t)).1 only))

  first-different : IsFirstTiploc xs ys s.it
  first-different = record {
    in_one = in-one s.side s.it ((a.only s).0 (Contains-first s found));
    before = λ t less. (
      λ h. ⊎_elim (λ has. has) (λ none. absurd (not-before Left t less (h, none))) (has-or-not ys t),
      λ h. ⊎_elim (λ has. has) (λ none. absurd (not-before Right t less (h, none))) (has-or-not xs t),
    );
  }

pub first-tiploc : (xs ys : List Tiploc) (found : List (Sided Tiploc)) → AreDifferentTiplocs xs ys found → (s : Sided Tiploc) →
    slice_get found 0 ≡ Some s → IsFirstTiploc xs ys s.it
first-tiploc xs ys [] a s first = absurd (cc)
first-tiploc xs ys (t ∷ found) a s first =
    subst (λ (u : Sided Tiploc). IsFirstTiploc xs ys u.it) (same_Some t s first) (first-different xs ys t found a)

-- where there is none, both lists have the same
pub no-tiploc : (xs ys : List Tiploc) (found : List (Sided Tiploc)) → AreDifferentTiplocs xs ys found → slice_get found 0 ≡ None →
    (t : Tiploc) → Contains xs t ↔ Contains ys t
no-tiploc xs ys [] a none t = (
  λ h. ⊎_elim (λ has. has) (λ no. absurd (Contains-none (with_side Left t) ((a.only (with_side Left t)).1 (h, no)))) (has-or-not ys t),
  λ h. ⊎_elim (λ has. has) (λ no. absurd (Contains-none (with_side Right t) ((a.only (with_side Right t)).1 (h, no)))) (has-or-not xs t),
)
no-tiploc xs ys (s ∷ found) a none t = absurd (cc)
