-- Runs of both sides in one list.
use Rattle.cif_canon.proofs.Names.{AllPairs, AreAppendedRuns, AreMerging, AreRisingRuns, Bool, Contains, Contains-cases, Contains-first}
use Rattle.cif_canon.proofs.Names.{Contains-get_or, Contains-none, Contains-push_cases, Contains-rest, Decides, HasMovedOf, IsFirstSide}
use Rattle.cif_canon.proofs.Names.{Left, List, None, Right, Run, RunComesBefore, Side, Sided, Some, [], all_pairs_push, ap, append-nil}
use Rattle.cif_canon.proofs.Names.{append_assoc, arith, at_side, cond_both, eq-or-lt_of_le, false, get_or, if◌then◌else◌, inl, inr, is_side}
use Rattle.cif_canon.proofs.Names.{of_side, refl, subst, suc, sym, true, true≢false, zero, ⊎_elim, ◌++◌, ◌<◌, ◌∙◌, ◌∷◌, ◌≡◌, ◌≤◌}

-- ---- lists with sides

-- the other side
abbrev pub other : Side → Side
other Left = Right
other Right = Left

pub side-decided : (side t : Side) → Decides (is_side side t) (t ≡ side)
side-decided Left Left = (λ e. refl, λ e. refl)
side-decided Left Right = (λ e. absurd (true≢false (sym e)), λ e. ap (is_side Left) e)
side-decided Right Left = (λ e. absurd (true≢false (sym e)), λ e. ap (is_side Right) e)
side-decided Right Right = (λ e. refl, λ e. refl)

-- what holds of both holds of each
pub by-side : (P : Side → Type 0) → P Left → P Right → (side : Side) → P side
by-side P one two Left = one
by-side P one two Right = two

-- what is made of each side's is that of this side
pub at_side-made : {A C : Type 0} (f : A → C) (a b : A) (side : Side) → at_side (f a) (f b) side ≡ f (at_side a b side)
at_side-made f a b = by-side (λ side. at_side (f a) (f b) side ≡ f (at_side a b side)) refl refl

pub at_other : {A : Type 0} (a b : A) (side : Side) → at_side a b (other side) ≡ at_side b a side
at_other a b = by-side (λ side. at_side a b (other side) ≡ at_side b a side) refl refl

module _ {A : Type 0} where
  cond-append : (b : Bool) (x : A) (u v w : List A) → u ≡ v ++ w → (if b then x ∷ u else u) ≡ (if b then x ∷ v else v) ++ w
  cond-append true x u v w h = ap (λ (l : List A). x ∷ l) h
  cond-append false x u v w h = h

  pub of_side-append : (side : Side) (xs ys : List (Sided A)) → of_side side (xs ++ ys) ≡ of_side side xs ++ of_side side ys
  of_side-append side [] ys = refl
  of_side-append side (s ∷ xs) ys =
      cond-append (is_side side s.side) s.it (of_side side (xs ++ ys)) (of_side side xs) (of_side side ys) (of_side-append side xs ys)

  -- an element is one of its side
  pub side-member : (xs : List (Sided A)) (s : Sided A) → Contains xs s → Contains (of_side s.side xs) s.it
  side-member [] s h = absurd (Contains-none s h)
  side-member (t ∷ xs) s h = ⊎_elim
      (λ is. subst (λ (u : Sided A). Contains (of_side u.side (t ∷ xs)) u.it) is
      (subst (λ b. Contains (if b then t.it ∷ of_side t.side xs else of_side t.side xs) t.it)
      (sym ((side-decided t.side t.side).1 refl)) (Contains-first t.it (of_side t.side xs))))
      (λ later. let there = side-member xs s later in
      cond_both (is_side s.side t.side) (t.it ∷ of_side s.side xs) (of_side s.side xs) (λ (u : List A). Contains u s.it)
      (λ yes. Contains-rest t.it (of_side s.side xs) s.it there) (λ no. there))
      (Contains-cases t xs s h)

  pub pairs-head : (R : A → A → Type 0) (x y : A) (xs : List A) → AllPairs R (x ∷ xs) → Contains xs y → R x y
  pairs-head R x y xs all (k, below, is) = subst (λ z. R x z) is (all zero (suc k) y (omega arith) (omega arith))

  pub pairs-tail : (R : A → A → Type 0) (x : A) (xs : List A) → AllPairs R (x ∷ xs) → AllPairs R xs
  pairs-tail R x xs all i j d less below = all (suc i) (suc j) d (omega arith) (omega arith)

-- an element of a side is one of the list
pub from-side : {A : Type 0} (side : Side) (found : List (Sided A)) (e : A) → Contains (of_side side found) e →
    Contains found (record { side = side; it = e })
from-side side [] e h = absurd (Contains-none e h)
from-side {A} side (s ∷ found) e h =
    let rest = λ (later : Contains (of_side side found) e).
    Contains-rest s found (record { side = side; it = e }) (from-side side found e later) in
    cond_both (is_side side s.side) (s.it ∷ of_side side found) (of_side side found)
    (λ (u : List A). Contains u e → Contains (s ∷ found) (record { side = side; it = e }))
    (λ yes in'. ⊎_elim
    (λ is. subst (λ v. Contains (s ∷ found) (record { side = side; it = v })) is
    (subst (λ t. Contains (s ∷ found) (record { side = t; it = s.it })) ((side-decided side s.side).0 yes) (Contains-first s found)))
    rest
    (Contains-cases s.it (of_side side found) e in'))
    (λ no. rest) h

-- what is last is of its side
pub of_side-own : {A : Type 0} (side : Side) (xs : List (Sided A)) (x : A) →
    of_side side (xs ++ (record { side = side; it = x }) ∷ []) ≡ of_side side xs ++ x ∷ []
of_side-own Left xs x = of_side-append Left xs ((record { side = Left; it = x }) ∷ [])
of_side-own Right xs x = of_side-append Right xs ((record { side = Right; it = x }) ∷ [])

pub of_side-other : {A : Type 0} (side : Side) (xs : List (Sided A)) (x : A) →
    of_side (other side) (xs ++ (record { side = side; it = x }) ∷ []) ≡ of_side (other side) xs
of_side-other Left xs x = of_side-append Right xs ((record { side = Left; it = x }) ∷ []) ∙ append-nil (of_side Right xs)
of_side-other Right xs x = of_side-append Left xs ((record { side = Right; it = x }) ∷ []) ∙ append-nil (of_side Left xs)

-- ---- a side's own, and that of the other

pub both-sides : {A : Type 0} (a : A) (side : Side) → at_side a a side ≡ a
both-sides a Left = refl
both-sides a Right = refl

module _ {A : Type 0} (P : Side → A → Type 0) (own theirs : A) where
  pub to-sides : (side : Side) → P side own → P (other side) theirs → (e : Side) →
      P e (at_side (at_side own theirs side) (at_side theirs own side) e)
  to-sides Left one two Left = one
  to-sides Left one two Right = two
  to-sides Right one two Left = two
  to-sides Right one two Right = one

  pub from-sides : (side : Side) → ((e : Side) → P e (at_side (at_side own theirs side) (at_side theirs own side) e)) →
      P side own × P (other side) theirs
  from-sides Left h = (h Left, h Right)
  from-sides Right h = (h Right, h Left)

-- ---- which run is first

-- it comes before those of the other side
first-before : (side : Side) (x : Run) (own theirs : List Run) →
    IsFirstSide (at_side (x ∷ own) theirs side) (at_side theirs (x ∷ own) side) (Some side) → AreRisingRuns theirs → (y : Run) →
    Contains theirs y → RunComesBefore (record { side = side; it = x }) (record { side = other side; it = y })
first-before side x own [] h rising y in' = absurd (Contains-none y in')
first-before side x own (z ∷ theirs) h rising y in' = before side h (⊎_elim
    (λ (is : z ≡ y). subst (λ (w : Run). z.first ≤ w.first) is (let itself : z.first ≤ z.first = omega arith in itself))
    (λ later. let less : z.first < y.first = pairs-head (λ (a b : Run). a.first < b.first) z y theirs rising later in
    let upto : z.first ≤ y.first = omega arith in upto)
    (Contains-cases z theirs y in'))
  where
    before : (side : Side) → IsFirstSide (at_side (x ∷ own) (z ∷ theirs) side) (at_side (z ∷ theirs) (x ∷ own) side) (Some side) →
        z.first ≤ y.first → RunComesBefore (record { side = side; it = x }) (record { side = other side; it = y })
    before Left h from =
        let upto : x.first ≤ z.first = h in
        ⊎_elim (λ same. inr (same, refl, refl)) (λ less. inl less) (eq-or-lt_of_le (let far : x.first ≤ y.first = omega arith in far))
    before Right h from = let less : x.first < z.first = h in inl (omega arith)

-- ---- one more

module _ (lefts rights : List Run) (old : List (Sided Run)) where
  pub merging-nothing : AreRisingRuns lefts → AreRisingRuns rights → AreMerging lefts rights lefts rights old old
  merging-nothing left right = record {
    merged = [];
    appended = sym (append-nil old);
    sides = λ side. refl;
    in_order = λ i j d less within. absurd (omega arith);
    after = λ s t in'. absurd (Contains-none s in');
    rising = λ side. to-sides (λ e runs. AreRisingRuns runs) lefts rights Left left right side;
  }

  module _ (new next : List (Sided Run)) where
    merging-more : (side : Side) (x : Run) (own theirs : List Run) →
        IsFirstSide (at_side (x ∷ own) theirs side) (at_side theirs (x ∷ own) side) (Some side) →
        AreMerging lefts rights (at_side (x ∷ own) theirs side) (at_side theirs (x ∷ own) side) old new →
        next ≡ new ++ (record { side = side; it = x }) ∷ [] →
        AreMerging lefts rights (at_side own theirs side) (at_side theirs own side) old next
    merging-more side x own theirs first m is =
        let s : Sided Run = record { side = side; it = x } in
        let rising = from-sides (λ e runs. AreRisingRuns runs) (x ∷ own) theirs side m.rising in
        let parts = from-sides (λ e runs. of_side e m.merged ++ runs ≡ at_side lefts rights e) (x ∷ own) theirs side m.sides in
        let were = λ (t : Sided Run) (in' : Contains m.merged t).
        from-sides (λ e runs. (y : Run) → Contains runs y → RunComesBefore t (record { side = e; it = y })) (x ∷ own) theirs side
        (λ e y. m.after t (record { side = e; it = y }) in') in
        record {
          merged = m.merged ++ s ∷ [];
          appended = is ∙ ap (λ (z : List (Sided Run)). z ++ s ∷ []) m.appended ∙ append_assoc old m.merged (s ∷ []);
          sides = to-sides (λ e runs. of_side e (m.merged ++ s ∷ []) ++ runs ≡ at_side lefts rights e) own theirs side
              (ap (λ (z : List Run). z ++ own) (of_side-own side m.merged x) ∙ append_assoc (of_side side m.merged) (x ∷ []) own ∙ parts.0)
              (ap (λ (z : List Run). z ++ theirs) (of_side-other side m.merged x) ∙ parts.1);
          in_order = all_pairs_push RunComesBefore m.merged s m.in_order
              (λ k d below. (were (get_or m.merged k d) (Contains-get_or m.merged k d below)).0 x (Contains-first x own));
          after = λ t u in_t. to-sides (λ e runs. (y : Run) → Contains runs y → RunComesBefore t (record { side = e; it = y })) own theirs
              side
              (λ y in_y. ⊎_elim
              (λ was. (were t was).0 y (Contains-rest x own y in_y))
              (λ now. subst (λ (v : Sided Run). RunComesBefore v (record { side = side; it = y })) now
              (inl (pairs-head (λ (a b : Run). a.first < b.first) x y own rising.0 in_y)))
              (Contains-push_cases m.merged s t in_t))
              (λ y in_y. ⊎_elim
              (λ was. (were t was).1 y in_y)
              (λ now. subst (λ (v : Sided Run). RunComesBefore v (record { side = other side; it = y })) now
              (first-before side x own theirs first rising.1 y in_y))
              (Contains-push_cases m.merged s t in_t))
              u.side u.it;
          rising = to-sides (λ e runs. AreRisingRuns runs) own theirs side
              (pairs-tail (λ (a b : Run). a.first < b.first) x own rising.0) rising.1;
        }

    -- the same, as the first of a list has moved
    pub moved-of : (side : Side) (l r l' r' : List Run) → IsFirstSide l r (Some side) → HasMovedOf side l r l' r' new next →
        AreMerging lefts rights l r old new → AreMerging lefts rights l' r' old next
    moved-of Left l r l' r' first (moved, same) m =
        rw same (merging-more Left moved.item l' r (rw moved.items_are at first) (rw moved.items_are at m) moved.new_is)
    moved-of Right l r l' r' first (moved, same) m =
        rw same (merging-more Right moved.item r' l (rw moved.items_are at first) (rw moved.items_are at m) moved.new_is)

pub nothing-first : (l r : List Run) → IsFirstSide l r None → (l ≡ []) × (r ≡ [])
nothing-first [] [] h = (refl, refl)
nothing-first [] (y ∷ r) h = absurd h
nothing-first (x ∷ l) [] h = absurd h
nothing-first (x ∷ l) (y ∷ r) h = absurd h

pub merging-end : (lefts rights l r : List Run) (old new : List (Sided Run)) → IsFirstSide l r None →
    AreMerging lefts rights l r old new → AreAppendedRuns lefts rights old new
merging-end lefts rights l r old new h m =
    let (no_left, no_right) = nothing-first l r h in
    let end : AreMerging lefts rights [] [] old new = rw (no_left, no_right) at m in
    record {
      merged = end.merged;
      are = record {
        sides = λ side. sym (append-nil (of_side side end.merged))
            ∙ ap (λ (z : List Run). of_side side end.merged ++ z) (sym (both-sides [] side)) ∙ end.sides side;
        in_order = end.in_order;
      };
      appended = end.appended;
    }

pub merged-none : (old : List (Sided Run)) → AreAppendedRuns [] [] old old
merged-none old =
    record {
      merged = [];
      are = record { sides = λ side. sym (both-sides [] side); in_order = λ i j d less within. absurd (omega arith) };
      appended = sym (append-nil old);
    }
