-- The locations that only one of two rising lists has are found one by one.
use Rattle.cif_canon.proofs.Names.{AllPairs, AreDifferentTiplocs, AreDistinct, AreSifting, Contains, Contains-append_left, Contains-cases}
use Rattle.cif_canon.proofs.Names.{Contains-first, Contains-get_or, Contains-none, Contains-push, Contains-push_cases, Contains-rest, Equal}
use Rattle.cif_canon.proofs.Names.{Greater, HasMovedOf, IsFirstOrder, IsOnlyIn, Left, Less, List, None, Right, Side, Sided, Some, Tiploc}
use Rattle.cif_canon.proofs.Names.{[], all_pairs_push, ap, arith, at_side, drop, get_or, inl, inr, length, nat_list_cmp_total, refl, subst}
use Rattle.cif_canon.proofs.Names.{sym, ⊎_elim, ◌++◌, ◌+◌, ◌<◌, ◌↔◌, ◌∷◌, ◌≡◌, ◌⊎◌}
use Rattle.cif_canon.proofs.DifferentTiplocs.{Before, before-greater, equal-tiplocs, not-itself, with_side}
use Rattle.cif_canon.proofs.MergedSides.{from-sides, pairs-head, pairs-tail, to-sides}

onward : (s t u : Tiploc) → Before s t → Before t u → Before s u
onward s t u h k = nat_list_cmp_total.trans s.columns t.columns u.columns h k

-- it is in the one list and not in the other
abbrev IsOnly : List Tiploc → List Tiploc → Tiploc → Type 0
IsOnly l r t = Contains l t × ¬ Contains r t

-- with an element that both have
more-both : (x : Tiploc) (l r : List Tiploc) → (Contains l x → ⊥) → (t : Tiploc) → IsOnly (x ∷ l) (x ∷ r) t ↔ IsOnly l r t
more-both x l r none t = (
  λ h. ⊎_elim
      (λ is. absurd (h.1 (subst (λ u. Contains (x ∷ r) u) is (Contains-first x r))))
      (λ later. (later, λ in'. h.1 (Contains-rest x r t in')))
      (Contains-cases x l t h.0),
  λ h. (
    Contains-rest x l t h.0,
    λ in'. ⊎_elim (λ is. none (subst (λ u. Contains l u) (sym is) h.0)) (λ later. h.1 later) (Contains-cases x r t in'),
  ),
)

-- ---- which is first

-- the location of this side is the lesser of the first ones
abbrev pub IsLesser : Side → List Tiploc → List Tiploc → Type 0
IsLesser Left l r = IsFirstOrder l r (Some Less)
IsLesser Right l r = IsFirstOrder l r (Some Greater)

lesser : (side : Side) (x : Tiploc) (own theirs : List Tiploc) →
    IsLesser side (at_side (x ∷ own) theirs side) (at_side theirs (x ∷ own) side) → AllPairs Before theirs → (y : Tiploc) →
    Contains theirs y → Before x y
lesser side x own [] h rising y in' = absurd (Contains-none y in')
lesser side x own (z ∷ theirs) h rising y in' = ⊎_elim
    (λ is. subst (λ u. Before x u) is (heads side h))
    (λ later. onward x z y (heads side h) (pairs-head Before z y theirs rising later))
    (Contains-cases z theirs y in')
  where
    heads : (side : Side) → IsLesser side (at_side (x ∷ own) (z ∷ theirs) side) (at_side (z ∷ theirs) (x ∷ own) side) → Before x z
    heads Left h = h
    heads Right h = before-greater z x h

pub nothing-first : (l r : List Tiploc) → IsFirstOrder l r None → (l ≡ []) × (r ≡ [])
nothing-first [] [] h = (refl, refl)
nothing-first [] (y ∷ r) h = absurd h
nothing-first (x ∷ l) [] h = absurd h
nothing-first (x ∷ l) (y ∷ r) h = absurd h

-- ---- one step

module _ (x : Tiploc) (own theirs : List Tiploc) (none : Contains theirs x → ⊥) where
  only-own : (side : Side) (t : Tiploc) → IsOnly (x ∷ own) theirs t ↔ ((with_side side x ≡ with_side side t) ⊎ IsOnly own theirs t)
  only-own side t = (
    λ h. ⊎_elim (λ is. inl (ap (with_side side) is)) (λ later. inr (later, h.1)) (Contains-cases x own t h.0),
    λ h. ⊎_elim
        (λ is. subst (λ (s : Sided Tiploc). IsOnly (x ∷ own) theirs s.it) is (Contains-first x own, none))
        (λ later. (Contains-rest x own t later.0, later.1))
        h,
  )

  only-theirs : (side e : Side) → (side ≡ e → ⊥) → (t : Tiploc) →
      IsOnly theirs (x ∷ own) t ↔ ((with_side side x ≡ with_side e t) ⊎ IsOnly theirs own t)
  only-theirs side e apart t = (
    λ h. inr (h.0, λ in'. h.1 (Contains-rest x own t in')),
    λ h. ⊎_elim
        (λ is. absurd (apart (ap (λ (s : Sided Tiploc). s.side) is)))
        (λ later. (
          later.0,
          λ in'. ⊎_elim (λ is. none (subst (λ u. Contains theirs u) (sym is) later.0)) later.1 (Contains-cases x own t in'),
        ))
        h,
  )

  -- a location that is left is that one, or it is left on
  only-one : (side e : Side) (t : Tiploc) →
      IsOnlyIn (at_side (x ∷ own) theirs side) (at_side theirs (x ∷ own) side) (with_side e t)
      ↔ ((with_side side x ≡ with_side e t) ⊎ IsOnlyIn (at_side own theirs side) (at_side theirs own side) (with_side e t))
  only-one Left Left t = only-own Left t
  only-one Left Right t = only-theirs Left Right (λ is. cc) t
  only-one Right Left t = only-theirs Right Left (λ is. cc) t
  only-one Right Right t = only-own Right t

module _ (lefts rights : List Tiploc) where
  pub sifting-nothing : AllPairs Before lefts → AllPairs Before rights → AreSifting lefts rights lefts rights []
  sifting-nothing left right = record {
    only = λ t. (λ h. inr h, λ h. ⊎_elim (λ none. absurd (Contains-none t none)) (λ is. is) h);
    rising = λ i j d less within. absurd (omega arith);
    after = λ s t in'. absurd (Contains-none s in');
    rests = to-sides (λ e ts. AllPairs Before ts) lefts rights Left left right;
  }

  module _ (found : List (Sided Tiploc)) where
    -- one side's is the lesser
    sifting-more : (side : Side) (x : Tiploc) (own theirs : List Tiploc) →
        IsLesser side (at_side (x ∷ own) theirs side) (at_side theirs (x ∷ own) side) →
        AreSifting lefts rights (at_side (x ∷ own) theirs side) (at_side theirs (x ∷ own) side) found →
        AreSifting lefts rights (at_side own theirs side) (at_side theirs own side) (found ++ with_side side x ∷ [])
    sifting-more side x own theirs first a =
        let s = with_side side x in
        let rests = from-sides (λ e ts. AllPairs Before ts) (x ∷ own) theirs side a.rests in
        let less = lesser side x own theirs first rests.1 in
        let none : Contains theirs x → ⊥ = λ in'. not-itself x (less x in') in
        let were = λ (t : Sided Tiploc) (in' : Contains found t).
        from-sides (λ e ts. (v : Tiploc) → Contains ts v → Before t.it v) (x ∷ own) theirs side (λ e v. a.after t (with_side e v) in') in
        record {
          only = λ t. let one = only-one x own theirs none side t.side t.it in (
            λ h. ⊎_elim
                (λ old. inl (Contains-append_left found (s ∷ []) t old))
                (λ here. ⊎_elim
                (λ is. inl (subst (λ u. Contains (found ++ s ∷ []) u) is (Contains-push found s)))
                (λ later. inr later)
                (one.0 here))
                ((a.only t).0 h),
            λ h. (a.only t).1 (⊎_elim
                (λ new. ⊎_elim (λ old. inl old) (λ is. inr (one.1 (inl is))) (Contains-push_cases found s t new))
                (λ later. inr (one.1 (inr later)))
                h),
          );
          rising = all_pairs_push (λ (u v : Sided Tiploc). Before u.it v.it) found s a.rising
              (λ k d below. (were (get_or found k d) (Contains-get_or found k d below)).0 x (Contains-first x own));
          after = λ t u in_t. to-sides (λ e ts. (v : Tiploc) → Contains ts v → Before t.it v) own theirs side
              (λ v in_v. ⊎_elim
              (λ was. (were t was).0 v (Contains-rest x own v in_v))
              (λ is. subst (λ (w : Sided Tiploc). Before w.it v) is (pairs-head Before x v own rests.0 in_v))
              (Contains-push_cases found s t in_t))
              (λ v in_v. ⊎_elim
              (λ was. (were t was).1 v in_v)
              (λ is. subst (λ (w : Sided Tiploc). Before w.it v) is (less v in_v))
              (Contains-push_cases found s t in_t))
              u.side u.it;
          rests = to-sides (λ e ts. AllPairs Before ts) own theirs side (pairs-tail Before x own rests.0) rests.1;
        }

    pub moved : (next : List (Sided Tiploc)) (side : Side) (l r l' r' : List Tiploc) → IsLesser side l r →
        HasMovedOf side l r l' r' found next → AreSifting lefts rights l r found → AreSifting lefts rights l' r' next
    moved next Left l r l' r' first (one, same) a =
        rw (same, one.new_is) (sifting-more Left one.item l' r (rw one.items_are at first) (rw one.items_are at a))
    moved next Right l r l' r' first (one, same) a =
        rw (same, one.new_is) (sifting-more Right one.item r' l (rw one.items_are at first) (rw one.items_are at a))

    -- both have it
    sifting-both : (x : Tiploc) (l r : List Tiploc) → AreSifting lefts rights (x ∷ l) (x ∷ r) found → AreSifting lefts rights l r found
    sifting-both x l r a = record {
      only = λ t. let one = only-one t.side t.it in (
        λ h. ⊎_elim (λ old. inl old) (λ here. inr (one.0 here)) ((a.only t).0 h),
        λ h. (a.only t).1 (⊎_elim (λ old. inl old) (λ later. inr (one.1 later)) h),
      );
      rising = a.rising;
      after = λ s t in_s. to-sides (λ e ts. (v : Tiploc) → Contains ts v → Before s.it v) l r Left
          (λ v in_v. a.after s (with_side Left v) in_s (Contains-rest x l v in_v))
          (λ v in_v. a.after s (with_side Right v) in_s (Contains-rest x r v in_v))
          t.side t.it;
      rests = to-sides (λ e ts. AllPairs Before ts) l r Left (pairs-tail Before x l (a.rests Left)) (pairs-tail Before x r (a.rests Right));
    } where
      none : (ts : List Tiploc) → AllPairs Before (x ∷ ts) → Contains ts x → ⊥
      none ts rising in' = not-itself x (pairs-head Before x x ts rising in')

      only-one : (side : Side) (t : Tiploc) → IsOnlyIn (x ∷ l) (x ∷ r) (with_side side t) ↔ IsOnlyIn l r (with_side side t)
      only-one Left t = more-both x l r (none l (a.rests Left)) t
      only-one Right t = more-both x r l (none r (a.rests Right)) t

    pub passed-both : (l r : List Tiploc) → IsFirstOrder l r (Some Equal) → AreSifting lefts rights l r found →
        (l' r' : List Tiploc) → l' ≡ drop 1 l → r' ≡ drop 1 r →
        AreSifting lefts rights l' r' found × (length l' + length r' < length l + length r)
    passed-both [] [] h a l' r' e f = absurd h
    passed-both [] (y ∷ r) h a l' r' e f = absurd h
    passed-both (x ∷ l) [] h a l' r' e f = absurd h
    passed-both (x ∷ l) (y ∷ r) h a l' r' e f =
        let same : x ≡ y = equal-tiplocs x y h in (
          subst (λ (z : List Tiploc). AreSifting lefts rights z r' found) (sym e)
              (subst (λ (z : List Tiploc). AreSifting lefts rights l z found) (sym f)
              (sifting-both x l r (subst (λ z. AreSifting lefts rights (x ∷ l) (z ∷ r) found) (sym same) a))),
          let one : length l' ≡ length l = ap (λ (z : List Tiploc). length z) e in
              let other : length r' ≡ length r = ap (λ (z : List Tiploc). length z) f in omega (arith, one, other),
        )

    -- in the end those that are found are all
    sifting-all : (ls rs : List Tiploc) → AreDistinct ls lefts → AreDistinct rs rights → AreSifting lefts rights [] [] found →
        AreDifferentTiplocs ls rs found
    sifting-all ls rs p q a = record {
      only = λ t. let own = members t.side t.it in (
        λ h. own.0 ((a.only t).1 (inl h)),
        λ h. ⊎_elim (λ is. is) (λ none. absurd (nothing t.side t.it none.0)) ((a.only t).0 (own.1 h)),
      );
      rising = a.rising;
    } where
      nothing : (side : Side) (t : Tiploc) → Contains (at_side [] [] side) t → ⊥
      nothing Left = Contains-none
      nothing Right = Contains-none

      same : (us us' vs vs' : List Tiploc) → AreDistinct us us' → AreDistinct vs vs' → (t : Tiploc) → IsOnly us' vs' t ↔ IsOnly us vs t
      same us us' vs vs' d e t = (
        λ h. ((d.members t).1 h.0, λ in'. h.1 ((e.members t).0 in')),
        λ h. ((d.members t).0 h.0, λ in'. h.1 ((e.members t).1 in')),
      )

      members : (side : Side) (t : Tiploc) → IsOnlyIn lefts rights (with_side side t) ↔ IsOnlyIn ls rs (with_side side t)
      members Left = same ls lefts rs rights p q
      members Right = same rs rights ls lefts q p

    pub sifting-end : (l r ls rs : List Tiploc) → AreDistinct ls lefts → AreDistinct rs rights →
        IsFirstOrder l r None → AreSifting lefts rights l r found → AreDifferentTiplocs ls rs found
    sifting-end l r ls rs p q h a =
        let (no_left, no_right) = nothing-first l r h in
        sifting-all ls rs p q (rw (no_left, no_right) at a)
