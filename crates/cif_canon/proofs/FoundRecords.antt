-- The differences of two lists are found key by key.
use Rattle.cif_canon.proofs.Names.{AllKeys, AllPairs, AllPairs-append, AllZip, AllZip-append, AllZip-long, AreAllByKey, AreCanonical}
use Rattle.cif_canon.proofs.Names.{AreClear, AreDifferentRuns, AreOnlyRecords, ArePositionsOf, AreRunsOf, AreSame, ComesBefore, Contains}
use Rattle.cif_canon.proofs.Names.{Contains-append_cases, Contains-cases, Contains-first, Contains-from_map, Contains-get_or, Contains-none}
use Rattle.cif_canon.proofs.Names.{EntriesSayTheSame, Equal, FirstKey, HasBody, IsClearFrom, IsCountOfKey, IsFirstDifference, IsFirstFound}
use Rattle.cif_canon.proofs.Names.{IsFirstOfBoth, IsRunOf, IsSidedRunOf, IsTotalOrder, IsWithin, Left, Less, List, None, NothingRuns}
use Rattle.cif_canon.proofs.Names.{OnlySays, Option, Ordering, Permanent, Records, Right, Run, RunComesBefore, Runs, RunsApplied}
use Rattle.cif_canon.proofs.Names.{SaysNothing, SaysSomething, Side, Sided, Some, Terms, TurnInto, Two, Window, [], ap, arith, at_side}
use Rattle.cif_canon.proofs.Names.{canonical-more, canonical-none, drop, get_or, if◌then◌else◌, inl, inr, is_side, length, less_one_way}
use Rattle.cif_canon.proofs.Names.{none-clear, none-some, not_less, of_key, of_side, refl, subst, sym, take, tight, with_key, zip-back, ℕ}
use Rattle.cif_canon.proofs.Names.{⊎_elim, ◌++◌, ◌<◌, ◌↔◌, ◌∙◌, ◌∷◌, ◌≡◌, ◌≢◌, ◌≤◌, ◌⊎◌}
use Rattle.cif_canon.proofs.ComparedKeys.{ArePassed, AreTurns, IsLeft, nobody, pass, passed-nothing, turns}
use Rattle.cif_canon.proofs.KeyRecords.{bodies-other, bodies-own, zip-keyed}
use Rattle.cif_canon.proofs.MergedSides.{at_other, by-side, from-side, of_side-append, other, pairs-head, side-member}
use Rattle.cif_canon.{proofs.OnlyRuns.pairs-zip, specs.declared.differing.Extent.Extent}

-- the runs are those of the canonical records of what only the first list says of key k
abbrev pub AreOnlyOfKey : {K B : Type 0} → Window → List (K × Terms B) → List (K × Terms B) → K → List Run → Type 0
AreOnlyOfKey window xs ys k runs = AreRunsOf Two window (λ run r. IsRunOf xs run (k, r)) (OnlySays xs ys k) runs

-- on day d one body runs for key k by the list of each side, or none
pub record AreRuns {K B : Type 0} (xs ys : List (K × Terms B)) (k : K) (d : ℕ) : Type 0 where
  pub body : Side → Option B
  pub runs : (side : Side) (o : Option B) → (body side ≡ o) ↔ Runs (of_key (at_side xs ys side) k) d o
  pub decided : (body Left ≡ body Right) ⊎ (body Left ≢ body Right)

-- of key k each list is clear, and it is known what runs by it; and these are, in order, the runs of what each says alone
pub record AreOfKey {K B : Type 0} (window : Window) (xs ys : List (K × Terms B)) (k : K) (merged : List (Sided Run)) : Type 0 where
  pub only : (side : Side) → AreOnlyOfKey window (at_side xs ys side) (at_side xs ys (other side)) k (of_side side merged)
  pub in_order : AllPairs RunComesBefore merged
  pub clear : (side : Side) → IsClearFrom (of_key (at_side xs ys side) k) window.first window.last
  pub runs : (d : ℕ) → IsWithin window d → AreRuns xs ys k d

-- ---- records with their sides

module _ {K B : Type 0} (xs ys : List (K × Terms B)) where
  -- the records of runs of both sides in one list
  pub record AreZipped (merged : List (Sided Run)) (lefts rights : List (K × Permanent B)) : Type 0 where
    pub found : List (Sided (K × Permanent B))
    pub runs_of : AllZip (IsSidedRunOf xs ys) merged found
    pub left : of_side Left found ≡ lefts
    pub right : of_side Right found ≡ rights

  zip-one : (s : Sided Run) (merged : List (Sided Run)) → ((l r : List (K × Permanent B)) → AllZip (IsRunOf xs) (of_side Left merged) l →
      AllZip (IsRunOf ys) (of_side Right merged) r → AreZipped merged l r) → (side : Side) → s.side ≡ side →
      (l r : List (K × Permanent B)) →
      AllZip (IsRunOf xs) (if is_side Left side then s.it ∷ of_side Left merged else of_side Left merged) l →
      AllZip (IsRunOf ys) (if is_side Right side then s.it ∷ of_side Right merged else of_side Right merged) r → AreZipped (s ∷ merged) l r
  zip-one s merged others Left is [] r z w = absurd z
  zip-one s merged others Left is (e ∷ l) r z w =
      let rest = others l r z.1 w in record {
        found = (record { side = Left; it = e }) ∷ rest.found;
        runs_of = (record { side = is; run_of = z.0 }, rest.runs_of);
        left = ap (λ (v : List (K × Permanent B)). e ∷ v) rest.left;
        right = rest.right;
      }
  zip-one s merged others Right is l [] z w = absurd w
  zip-one s merged others Right is l (e ∷ r) z w =
      let rest = others l r z w.1 in record {
        found = (record { side = Right; it = e }) ∷ rest.found;
        runs_of = (record { side = is; run_of = w.0 }, rest.runs_of);
        left = rest.left;
        right = ap (λ (v : List (K × Permanent B)). e ∷ v) rest.right;
      }

  pub zip-sides : (merged : List (Sided Run)) (l r : List (K × Permanent B)) → AllZip (IsRunOf xs) (of_side Left merged) l →
      AllZip (IsRunOf ys) (of_side Right merged) r → AreZipped merged l r
  zip-sides [] [] [] z w = record { found = []; runs_of = tt; left = refl; right = refl }
  zip-sides [] [] (e ∷ r) z w = absurd w
  zip-sides [] (e ∷ l) r z w = absurd z
  zip-sides (s ∷ merged) l r z w = zip-one s merged (λ l r. zip-sides merged l r) s.side refl l r z w

-- ---- what is found of one key more

-- of key k each list is clear, the records of its side say what only it does, and it is known what runs by each
pub record IsKnown {K B : Type 0} (window : Window) (xs ys : List (K × Terms B)) (found : List (Sided (K × Permanent B))) (k : K) : Type 0
  where
    pub clear : (side : Side) → IsClearFrom (of_key (at_side xs ys side) k) window.first window.last
    pub says : (side : Side) (d : ℕ) (b : B) → IsWithin window d →
        HasBody (of_key (of_side side found) k) d b ↔ OnlySays (at_side xs ys side) (at_side xs ys (other side)) k d b
    pub runs : (d : ℕ) → IsWithin window d → AreRuns xs ys k d

module _ {K B : Type 0} (cmp : K → K → Ordering) (window : Window) (xs ys : List (K × Terms B)) where
  -- the runs are those of the differences of all keys but the ones with entries at the rests, which are after them
  pub record AreFound (l r : List ℕ) (runs : List (Sided Run)) : Type 0 where
    pub found : List (Sided (K × Permanent B))
    pub runs_of : AllZip (IsSidedRunOf xs ys) runs found
    pub canonical : (side : Side) → AreCanonical cmp Two window (of_side side found)
    pub in_order : AllPairs (ComesBefore cmp) found
    pub before : (s : Sided (K × Permanent B)) (k : K) → Contains found s → IsLeft cmp xs l ys r k → cmp s.it.0 k ≡ Less
    pub passed : ArePassed cmp xs ys l r (IsKnown window xs ys found)

-- one record comes before another by first date, and where that is the same the left one before the right one
abbrev DatesBefore : {K B : Type 0} → Sided (K × Permanent B) → Sided (K × Permanent B) → Type 0
DatesBefore s t = (s.it.1.first < t.it.1.first) ⊎ ((s.it.1.first ≡ t.it.1.first) × (s.side ≡ Left) × (t.side ≡ Right))

-- what is of a side is listed with it
-- records that a key's list begins with have that key
with-key : {K B : Type 0} (k : K) (own : List (Permanent B)) (e : K × Permanent B) → Contains (with_key k own) e → e.0 ≡ k
with-key {K} {B} k own e in' =
    let (r, listed, is) = Contains-from_map (λ (r : Permanent B). (k, r)) own e in' in sym (ap (λ (e : K × Permanent B). e.0) is)

module _ {K B : Type 0} (cmp : K → K → Ordering) (total : IsTotalOrder cmp) (same : (j k : K) → cmp j k ≡ Equal → j ≡ k)
    (window : Window) (xs ys : List (K × Terms B)) (l r : List ℕ) (runs : List (Sided Run)) (a : AreFound cmp window xs ys l r runs) (k : K)
    (f : IsFirstOfBoth cmp xs l ys r k) (n m : ℕ) (left_front : IsCountOfKey cmp xs l k n) (right_front : IsCountOfKey cmp ys r k m) where
  pub found-turns : AreTurns cmp xs ys l r k (take n l) (drop n l) (take m r) (drop m r)
  found-turns = turns cmp total same xs ys l r (IsKnown window xs ys a.found) a.passed k f n m left_front right_front

  module _ (merged : List (Sided Run))
      (given : ArePositionsOf xs k (take n l) → ArePositionsOf ys k (take m r) → AreOfKey window xs ys k merged) where
    o : AreOfKey window xs ys k merged
    o = given found-turns.left found-turns.right

    -- the key's records of one side
    abbrev own : Side → List (Permanent B)
    own side = (o.only side).records

    zipped : AreZipped xs ys merged (with_key k (own Left)) (with_key k (own Right))
    zipped = zip-sides xs ys merged (with_key k (own Left)) (with_key k (own Right))
        (zip-keyed xs k (of_side Left merged) (own Left) (o.only Left).runs_of)
        (zip-keyed ys k (of_side Right merged) (own Right) (o.only Right).runs_of)

    new : (side : Side) → of_side side zipped.found ≡ with_key k (own side)
    new Left = zipped.left
    new Right = zipped.right

    all : (side : Side) → of_side side (a.found ++ zipped.found) ≡ of_side side a.found ++ with_key k (own side)
    all side = of_side-append side a.found zipped.found ∙ ap (λ (z : List (K × Permanent B)). of_side side a.found ++ z) (new side)

    -- the key of those that are new
    own-key : (s : Sided (K × Permanent B)) → Contains zipped.found s → s.it.0 ≡ k
    own-key s in' = with-key k (own s.side) s.it
        (subst (λ (z : List (K × Permanent B)). Contains z s.it) (new s.side) (side-member zipped.found s in'))

    -- the key of one that is old is before it
    old : (side : Side) (j : K) (p : Permanent B) → of_key (of_side side a.found) j p → cmp j k ≡ Less
    old side j p in' = a.before (record { side = side; it = (j, p) }) k (from-side side a.found (j, p) in') f.has

    side-canonical : (side : Side) → AreCanonical cmp Two window (of_side side (a.found ++ zipped.found))
    side-canonical side = subst (AreCanonical cmp Two window) (sym (all side))
        (canonical-more (of_side side a.found) k (own side) cmp total Two window (a.canonical side) (old side) (o.only side).rising
        (o.only side).have_form)

    -- the dates of runs are those of their records
    dates-of : (s : Sided Run) (e : Sided (K × Permanent B)) → IsSidedRunOf xs ys s e → e.it.1.first ≡ s.it.first
    dates-of s e h = ap (λ (p : Permanent B). p.first) h.run_of.dates

    by-dates : AllPairs DatesBefore zipped.found
    by-dates = pairs-zip (λ (e : Sided (K × Permanent B)) (s : Sided Run). IsSidedRunOf xs ys s e) DatesBefore RunComesBefore
        (λ d e s t h i before. ⊎_elim
        (λ less.
        let one = dates-of s d h in
        let other = dates-of t e i in
        inl (omega (arith, one, other, less)))
        (λ same. inr (dates-of s d h ∙ same.0 ∙ sym (dates-of t e i), sym h.side ∙ same.1, sym i.side ∙ same.2))
        before)
        zipped.found merged (zip-back (IsSidedRunOf xs ys) merged zipped.found zipped.runs_of) o.in_order

    own-order : AllPairs (ComesBefore cmp) zipped.found
    own-order = λ i j d less within.
        let s = get_or zipped.found i d in
        let t = get_or zipped.found j d in
        let one : s.it.0 ≡ k = own-key s (Contains-get_or zipped.found i d (omega arith)) in
        let other : t.it.0 ≡ k = own-key t (Contains-get_or zipped.found j d within) in
        ⊎_elim
        (λ before. inl (inr (one ∙ sym other, before)))
        (λ same. inr (one ∙ sym other, same.0, same.1, same.2))
        (by-dates i j d less within)

    -- for the key itself
    known-here : IsKnown window xs ys (a.found ++ zipped.found) k
    known-here = record {
      clear = o.clear;
      says = λ side d b within.
          let bodies = bodies-own (of_side side a.found) k (own side)
          (λ p is. absurd (not_less cmp total k k refl (old side k p is))) d b in
          let say = (o.only side).say d b within in
          subst (λ zs. HasBody (of_key zs k) d b ↔ OnlySays (at_side xs ys side) (at_side xs ys (other side)) k d b) (sym (all side))
          (λ h. say.1 (bodies.0 h), λ h. bodies.1 (say.0 h));
      runs = o.runs;
    }

    -- and for another
    known-there : (j : K) → (j ≡ k → ⊥) → IsKnown window xs ys a.found j → IsKnown window xs ys (a.found ++ zipped.found) j
    known-there j apart t = record {
      clear = t.clear;
      says = λ side d b within.
          let bodies = bodies-other (of_side side a.found) k (own side) j apart d b in
          let say = t.says side d b within in
          subst (λ zs. HasBody (of_key zs j) d b ↔ OnlySays (at_side xs ys side) (at_side xs ys (other side)) j d b) (sym (all side))
          (λ h. say.0 (bodies.0 h), λ h. bodies.1 (say.1 h));
      runs = t.runs;
    }

    -- with the key's differences behind the others the key has passed
    pub found-key : (next : List (Sided Run)) → next ≡ runs ++ merged → AreFound cmp window xs ys (drop n l) (drop m r) next
    found-key next is = record {
      found = a.found ++ zipped.found;
      runs_of = subst (λ (z : List (Sided Run)). AllZip (IsSidedRunOf xs ys) z (a.found ++ zipped.found)) (sym is)
          (AllZip-append (IsSidedRunOf xs ys) runs merged a.found zipped.found a.runs_of zipped.runs_of);
      canonical = side-canonical;
      in_order = AllPairs-append (ComesBefore cmp) a.found zipped.found a.in_order own-order
          (λ s u in_s in_u. inl (inl (subst (λ j. cmp s.it.0 j ≡ Less) (sym (own-key u in_u)) (a.before s k in_s f.has))));
      before = λ s j in_s left. ⊎_elim
          (λ old. a.before s j old (found-turns.still j left))
          (λ new. subst (λ i. cmp i j ≡ Less) (sym (own-key s new)) (found-turns.later j left))
          (Contains-append_cases a.found zipped.found s in_s);
      passed = pass cmp total same xs ys l r (IsKnown window xs ys a.found) a.passed k f n m left_front right_front
          (IsKnown window xs ys (a.found ++ zipped.found)) known-here known-there;
    }

-- ---- of a key without entries

known-idle : {K B : Type 0} (window : Window) (xs ys : List (K × Terms B)) (k : K) →
    ((side : Side) (t : Terms B) → of_key (at_side xs ys side) k t → ⊥) → IsKnown window xs ys [] k
known-idle {K} {B} window xs ys k nothing = record {
  clear = λ side. none-clear (of_key (at_side xs ys side) k) (nothing side) window.first window.last;
  says = λ side d b within. (λ h. absurd (Contains-none (k, h.it) h.listed), λ h. absurd (nothing side h.runs.winner h.runs.wins.listed));
  runs = λ d within. record {
    body = λ side. None;
    runs = λ side. idle (of_key (at_side xs ys side) k) (nothing side) d;
    decided = inl refl;
  };
} where
  idle : (records : Records B) → ((t : Terms B) → records t → ⊥) → (d : ℕ) (o : Option B) → (None ≡ o) ↔ Runs records d o
  idle records none d None = (λ e. record { cancelled = λ t w. absurd (none t w.listed) }, λ h. refl)
  idle records none d (Some b) = (λ e. absurd (cc), λ h. absurd (none h.winner h.wins.listed))

pub found-first : {K B : Type 0} (cmp : K → K → Ordering) (total : IsTotalOrder cmp) (same : (j k : K) → cmp j k ≡ Equal → j ≡ k)
    (window : Window) (xs ys : List (K × Terms B)) (l r : List ℕ) → AreAllByKey cmp xs l → AreAllByKey cmp ys r →
    AreFound cmp window xs ys l r []
found-first {K} {B} cmp total same window xs ys l r left right = record {
  found = [];
  runs_of = tt;
  canonical = λ side. canonical-none cmp Two window;
  in_order = λ i j d less within. absurd (omega arith);
  before = λ s k in'. absurd (Contains-none s in');
  passed = passed-nothing cmp total same xs ys l r left right (IsKnown window xs ys []) (λ k no_x no_y. known-idle window xs ys k
      (by-side (λ side. (t : Terms B) → of_key (at_side xs ys side) k t → ⊥) no_x no_y));
}

-- ---- what is known of all keys

-- a list without members
pub no-member : {A : Type 0} (zs : List A) → ((s : A) → Contains zs s → ⊥) → zs ≡ []
no-member [] none = refl
no-member (s ∷ zs) none = absurd (none s (Contains-first s zs))

-- two options are the same, if neither has something that the other hasn't
same-options : {B : Type 0} (u v : Option B) → ((b : B) → u ≡ Some b → v ≢ Some b → ⊥) → ((b : B) → v ≡ Some b → u ≢ Some b → ⊥) →
    (u ≡ v) ⊎ (u ≢ v) → u ≡ v
same-options u v no_u no_v (inl same) = same
same-options None None no_u no_v (inr apart) = refl
same-options None (Some b) no_u no_v (inr apart) = absurd (no_v b refl apart)
same-options (Some a) v no_u no_v (inr apart) = absurd (no_u a refl (λ e. apart (sym e)))

module _ {K B : Type 0} (window : Window) (xs ys : List (K × Terms B)) (found : List (Sided (K × Permanent B))) where
  module _ (k : K) (t : IsKnown window xs ys found k) (d : ℕ) (within : IsWithin window d) where
    abbrev on : AreRuns xs ys k d
    on = t.runs d within

    -- a side says what runs by it and not by the other one
    says : (side : Side) (b : B) → HasBody (of_key (of_side side found) k) d b ↔ ((on.body side ≡ Some b) × (on.body (other side) ≢ Some b))
    says side b =
        let only = t.says side d b within in
        let own = on.runs side (Some b) in
        let theirs = on.runs (other side) (Some b) in (
          λ h. let o = only.0 h in (own.1 o.runs, λ e. o.differs (theirs.0 e)),
          λ h. only.1 (record { runs = own.0 h.0; differs = λ o. h.1 (theirs.1 o) }),
        )

    -- where both have the same, neither says anything
    silent : on.body Left ≡ on.body Right → (side : Side) → SaysNothing side found k d
    silent same Left b h = let e = (says Left b).0 h in e.1 (sym same ∙ e.0)
    silent same Right b h = let e = (says Right b).0 h in e.1 (same ∙ e.0)

    -- and where neither says anything, both have the same
    both-silent : ((side : Side) → SaysNothing side found k d) → on.body Left ≡ on.body Right
    both-silent nothing =
        same-options (on.body Left) (on.body Right) (λ b e no. nothing Left b ((says Left b).1 (e, no)))
        (λ b e no. nothing Right b ((says Right b).1 (e, no))) on.decided

    -- where the right one has none, the left one says what it has, if it has something
    left-out : (o : Option B) → on.body Left ≡ o → on.body Right ≡ None → SaysSomething Left found k d ⊎ NothingRuns (of_key xs k) d
    left-out None is none = inr ((on.runs Left None).0 is)
    left-out (Some b) is none = inl (b, (says Left b).1 (is, λ e. none-some b (sym none ∙ e)))

    has-none : (o : Option B) → on.body Right ≡ o → RunsApplied xs found k d None → on.body Right ≡ None
    has-none None is h = is
    has-none (Some b) is h = absurd (h.0 b ((says Right b).1 (
      is,
      λ e. ⊎_elim
          (λ some. let left = (says Left some.0).0 some.1 in left.1 (is ∙ sym e ∙ left.0))
          (λ none. none-some b (sym ((on.runs Left None).1 none) ∙ e))
          h.1,
    )))

    turn : (o : Option B) → (on.body Right ≡ o) ↔ RunsApplied xs found k d o
    turn None = (
      λ e. (λ b h. none-some b (sym e ∙ ((says Right b).0 h).0), left-out (on.body Left) refl e),
      λ h. has-none (on.body Right) refl h,
    )
    turn (Some b) = (
      λ e. ⊎_elim
          (λ same. inr (silent same Right, silent same Left, (on.runs Left (Some b)).0 (same ∙ e)))
          (λ apart. inl ((says Right b).1 (e, λ g. apart (g ∙ sym e))))
          on.decided,
      λ h. ⊎_elim
          (λ new. ((says Right b).0 new).0)
          (λ kept. sym (both-silent (by-side (λ side. SaysNothing side found k d) kept.1 kept.0)) ∙ (on.runs Left (Some b)).1 kept.2)
          h,
    )

    pub turn-on : (o : Option B) → Runs (of_key ys k) d o ↔ RunsApplied xs found k d o
    turn-on o = (λ h. (turn o).0 ((on.runs Right o).1 h), λ h. (on.runs Right o).0 ((turn o).1 h))

    pub silent-same : ((side : Side) → SaysNothing side found k d) → (o : Option B) → Runs (of_key xs k) d o ↔ Runs (of_key ys k) d o
    silent-same nothing o = let same = both-silent nothing in (
      λ h. (on.runs Right o).0 (sym same ∙ (on.runs Left o).1 h),
      λ h. (on.runs Left o).0 (same ∙ (on.runs Right o).1 h),
    )

  module _ (known : (k : K) → IsKnown window xs ys found k) where
    pub turn-all : TurnInto window xs ys found
    turn-all = record { runs = λ k d o within. turn-on k (known k) d within o }

    clear-all : (side : Side) → AreClear (at_side xs ys side) window.first window.last
    clear-all side = record { key = λ k. (known k).clear side }

    same-all : found ≡ [] → AreSame window xs ys
    same-all is = record {
      clear = clear-all;
      same = record {
        same = λ k d o from upto. silent-same k (known k) d (record { from = from; upto = upto }) (λ side. none-says side k d) o;
      };
    } where
      none-says : (side : Side) (k : K) (d : ℕ) → SaysNothing side found k d
      none-says side k d b h =
          Contains-none (k, h.it)
          (subst (λ (z : List (Sided (K × Permanent B))). Contains (of_side side z) (k, h.it)) is h.listed)

-- ---- the first record

module _ {K B : Type 0} (cmp : K → K → Ordering) (total : IsTotalOrder cmp) (window : Window) (xs ys : List (K × Terms B))
    (s : Sided (K × Permanent B)) (others : List (Sided (K × Permanent B))) (in_order : AllPairs (ComesBefore cmp) (s ∷ others))
    (canonical : (side : Side) → AreCanonical cmp Two window (of_side side (s ∷ others)))
    (known : (k : K) → (cmp s.it.0 k ≡ Less → ⊥) → IsKnown window xs ys (s ∷ others) k) where
  -- no record is before it
  from-first : (side : Side) (k : K) (p : Permanent B) → of_key (of_side side (s ∷ others)) k p →
      (cmp s.it.0 k ≡ Less) ⊎ ((s.it.0 ≡ k) × (s.it.1.first ≤ p.first))
  from-first side k p in' =
      let e : Sided (K × Permanent B) = record { side = side; it = (k, p) } in
      ⊎_elim
      (λ is.
      let same : s.it.1.first ≡ p.first = ap (λ (t : Sided (K × Permanent B)). t.it.1.first) is in
      inr (ap (λ (t : Sided (K × Permanent B)). t.it.0) is, omega (arith, same)))
      (λ later. ⊎_elim
      (λ precedes. ⊎_elim
      (λ less. inl less)
      (λ dates. let less : s.it.1.first < p.first = dates.1 in inr (dates.0, omega (arith, less)))
      precedes)
      (λ sides. let same : s.it.1.first ≡ p.first = sides.1 in inr (sides.0, omega (arith, same)))
      (pairs-head (ComesBefore cmp) s e others in_order later))
      (Contains-cases s others e (from-side side (s ∷ others) (k, p) in'))

  silent-key : (side : Side) (k : K) (d : ℕ) → cmp k s.it.0 ≡ Less → SaysNothing side (s ∷ others) k d
  silent-key side k d less b h = ⊎_elim
      (λ after. less_one_way cmp total k s.it.0 less after)
      (λ same. not_less cmp total k s.it.0 (sym same.0) less)
      (from-first side k h.it h.listed)

  silent-day : (side : Side) (d : ℕ) → d < s.it.1.first → SaysNothing side (s ∷ others) s.it.0 d
  silent-day side d less b h = ⊎_elim
      (λ after. not_less cmp total s.it.0 s.it.0 refl after)
      (λ same. let begun : h.it.first ≤ d = h.applies.begun in let from = same.1 in omega (arith, begun, from, less))
      (from-first side s.it.0 h.it h.listed)

  here : IsKnown window xs ys (s ∷ others) s.it.0
  here = known s.it.0 (not_less cmp total s.it.0 s.it.0 refl)

  -- on its first day it applies
  first-day : IsWithin window s.it.1.first × HasBody (of_key (of_side s.side (s ∷ others)) s.it.0) s.it.1.first s.it.1.body
  first-day =
      let listed = side-member (s ∷ others) s (Contains-first s others) in
      let t = tight s.it.1 window Two (((canonical s.side).have_form s.it.0).aligned s.it.1 listed) in
      (t.first_within, record { it = s.it.1; listed = listed; applies = t.on_first; body = refl })

  within : IsWithin window s.it.1.first
  within = first-day.0

  abbrev both : AreRuns xs ys s.it.0 s.it.1.first
  both = here.runs s.it.1.first within

  -- so the lists have different bodies there
  apart : both.body Left ≢ both.body Right
  apart same = silent window xs ys (s ∷ others) s.it.0 here s.it.1.first within same s.side s.it.1.body first-day.1

  first-found : IsFirstDifference cmp xs ys window.first window.last s.it.0 s.it.1.first
  first-found = record {
    from = within.from;
    upto = within.upto;
    differ = record {
      one = both.body Left;
      other = both.body Right;
      one_runs = (both.runs Left (both.body Left)).0 refl;
      other_runs = (both.runs Right (both.body Right)).0 refl;
      differ = apart;
    };
    alike_before = λ e from less. let upto = within.upto in
        silent-same window xs ys (s ∷ others) s.it.0 here e (record { from = from; upto = omega (arith, upto, less) })
        (λ side. silent-day side e less);
    keys_before = λ j e less from upto.
        silent-same window xs ys (s ∷ others) j (known j (less_one_way cmp total j s.it.0 less)) e (record { from = from; upto = upto })
        (λ side. silent-key side j e less);
  }

  not-same : EntriesSayTheSame xs ys window.first window.last → ⊥
  not-same same =
      let left = both.body Left in
      apart (sym ((both.runs Right left).1 ((same.same s.it.0 s.it.1.first left within.from within.upto).0 ((both.runs Left left).0 refl))))

-- ---- of all keys, or enough

module _ {K B : Type 0} (cmp : K → K → Ordering) (total : IsTotalOrder cmp) (window : Window) (xs ys : List (K × Terms B)) where
  of-first : (found : List (Sided (K × Permanent B))) → AllPairs (ComesBefore cmp) found →
      ((side : Side) → AreCanonical cmp Two window (of_side side found)) →
      ((s : Sided (K × Permanent B)) (k : K) → Contains found s → (cmp s.it.0 k ≡ Less → ⊥) → IsKnown window xs ys found k) →
      (found ≡ [] → AreSame window xs ys) →
      IsFirstFound cmp window xs ys found × (EntriesSayTheSame xs ys window.first window.last → found ≡ [])
  of-first [] in_order canonical known none = (none refl, λ same. refl)
  of-first (s ∷ others) in_order canonical known none =
      let those = λ (k : K). known s k (Contains-first s others) in (
        first-found cmp total window xs ys s others in_order canonical those,
        λ same. absurd (not-same cmp total window xs ys s others in_order canonical those same),
      )

  module _ (l r : List ℕ) (runs : List (Sided Run)) (a : AreFound cmp window xs ys l r runs) (extent : Extent) where
    different-runs : (a.found ≡ [] → AreSame window xs ys) →
        (extent ≡ AllKeys → (k : K) → IsKnown window xs ys a.found k) → AreDifferentRuns cmp window xs ys extent runs
    different-runs none known =
        let first = of-first a.found a.in_order a.canonical
        (λ s k in' apart. a.passed.known k (λ left. apart (a.before s k in' left))) none in record {
          found = a.found;
          runs_of = a.runs_of;
          first = first.0;
          none = first.1;
          clear = λ all. clear-all window xs ys a.found (known all);
          different = λ all. record {
            only = λ side. subst (λ zs. AreOnlyRecords cmp window (at_side xs ys side) zs (of_side side a.found)) (at_other xs ys side)
                (record { canonical = a.canonical side; exact = λ k d b within. (known all k).says side d b within });
            in_order = a.in_order;
          };
          turn = λ all. turn-all window xs ys a.found (known all);
        }

    -- where something is found, that is enough for the first difference
    pub found-enough : extent ≡ FirstKey → 0 < length runs → AreDifferentRuns cmp window xs ys extent runs
    found-enough is some = different-runs
        (λ none. absurd (let n : length runs ≡ 0 = sym (AllZip-long (IsSidedRunOf xs ys) runs a.found a.runs_of)
        ∙ ap (λ (z : List (Sided (K × Permanent B))). length z) none in omega (arith, n, some)))
        (λ all. absurd (let no : FirstKey ≡ AllKeys = sym is ∙ all in cc))

  pub found-all : (same : (j k : K) → cmp j k ≡ Equal → j ≡ k) (runs : List (Sided Run)) → AreFound cmp window xs ys [] [] runs →
      (extent : Extent) → AreDifferentRuns cmp window xs ys extent runs
  found-all same runs a extent =
      let known = λ (k : K). a.passed.known k (nobody cmp total same xs ys k) in
      different-runs [] [] runs a extent (same-all window xs ys a.found known) (λ all. known)
