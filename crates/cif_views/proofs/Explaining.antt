-- The records of a train that apply on a day are found, put in order and marked one by one.
use Rattle.cif_views.proofs.Names.{All-contains, All-permutation, All-push, All-weaker, AllPairs, AllPairs-map, AllWithin, AreExplained}
use Rattle.cif_views.proofs.Names.{AreMarked, ArePlacedBelow, ArePlacedInOrder, Contains, Contains-append_left, Contains-from_map}
use Rattle.cif_views.proofs.Names.{Contains-map, Contains-permutation, Contains-push, Decides-eqb, Equal, Explained, Greater, IsFirstOfKey}
use Rattle.cif_views.proofs.Names.{IsLeast, IsLevel, IsLike, IsMarkAmong, IsMarkAt, IsMarkOf, IsMarked, IsPermutation, IsPermutation-map}
use Rattle.cif_views.proofs.Names.{IsPlaced, IsRisingBy, IsSortedBy, IsTotalOrder, Less, List, Mark, Ordering, Placed, Some, Terms, Wins}
use Rattle.cif_views.proofs.Names.{[], all_pairs_push, ap, ap₂, arith, at-contains, at_read, cases_lt, contains-at, drop, eq-or-lt_of_le}
use Rattle.cif_views.proofs.Names.{false, get_or, get_or-drop, get_or-map, get_or-take, get_or_default, inl, inr, is_lt, length}
use Rattle.cif_views.proofs.Names.{length-drop, length-map, length-take, map, map-append, marked_as, nat_cmp, nat_tests, of_key, on_total}
use Rattle.cif_views.proofs.Names.{ordering_reverse, ordering_then, placed_at, placed_cmp, precedence, ranks_by, refl, slice_get}
use Rattle.cif_views.proofs.Names.{slice_get_within, slice_range, some_pair_parts, sorted_far, subst, sym, take, take_more, then_total}
use Rattle.cif_views.proofs.Names.{tied_itself, unmarked, ℕ, ⊎_elim, ◌++◌, ◌+◌, ◌-◌, ◌<◌, ◌==◌, ◌∙◌, ◌∷◌, ◌≡◌, ◌≢◌, ◌≤◌, ◌⊎◌}
use Rattle.std.proofs.{lemmas.Cmp.nat_cmp_total, lemmas.Map.Keys.IsDistinct-IsPermutation, lemmas.Map.Made.AllPairs-from_IsDistinct}
use Rattle.std.proofs.{lemmas.Map.Made.IsDistinct-from_AllPairs}
use Rattle.cif_calendar.specs.Applies.{Applies}
use Rattle.cif_views.specs.declared.marks.Mark.TheVariants as mark

-- ---- the records are found, one entry after another

placed-same : {K B : Type 0} (p q : Placed K B) → p.place ≡ q.place → p.key ≡ q.key → p.terms ≡ q.terms → p ≡ q
placed-same p q place key terms =
    ap (λ n. placed_at n p.key p.terms) place
    ∙ (ap (λ k. placed_at q.place k p.terms) key ∙ ap (λ t. placed_at q.place q.key t) terms)

module _ {K B : Type 0} (IsOf : K → List ℕ → Type 0) (entries : List (K × Terms B)) (u : List ℕ) (d : ℕ) where
  one-place : (p q : Placed K B) → IsPlaced IsOf entries u d p → IsPlaced IsOf entries u d q → p.place ≡ q.place → p ≡ q
  one-place p q of_p of_q place =
      let parts = some_pair_parts _ _ _ _ (sym of_p.at ∙ ap (slice_get entries) place ∙ of_q.at) in
      placed-same p q place parts.0 parts.1

  module _ (n : ℕ) (placed : List (Placed K B)) (are : ArePlacedBelow IsOf entries u d n placed) where
    pub placed-more : (p : Placed K B) → IsPlaced IsOf entries u d p → p.place ≡ n
        → ArePlacedBelow IsOf entries u d (n + 1) (placed ++ (p ∷ []))
    placed-more p of_p place = record {
      found = All-push (IsPlaced IsOf entries u d) placed p are.found of_p;
      below = All-push (λ (q : Placed K B). q.place < n + 1) placed p
          (All-weaker (λ (q : Placed K B). q.place < n) (λ (q : Placed K B). q.place < n + 1) (λ q lt. omega (arith, lt)) placed are.below)
          (omega (arith, place));
      all = λ q of_q lt. all_of q of_q (eq-or-lt_of_le {n = q.place} {m = n} (omega (arith, lt)));
      rising = all_pairs_push (λ (x y : Placed K B). x.place < y.place) placed p are.rising
          (λ k e below. let lt = are.below k e below in omega (arith, lt, place));
    }
      where
        all_of : (q : Placed K B) → IsPlaced IsOf entries u d q → (q.place ≡ n) ⊎ (q.place < n) → Contains (placed ++ (p ∷ [])) q
        all_of q of_q (inl last) =
            subst (Contains (placed ++ (p ∷ []))) (one-place p q of_p of_q (place ∙ sym last)) (Contains-push placed p)
        all_of q of_q (inr earlier) = Contains-append_left placed (p ∷ []) q (are.all q of_q earlier)

    pub placed-no_more : ((k : K) (r : Terms B) → slice_get entries n ≡ Some (k, r) → IsOf k u → Applies r d → ⊥)
        → ArePlacedBelow IsOf entries u d (n + 1) placed
    placed-no_more none = record {
      found = are.found;
      below = All-weaker (λ (q : Placed K B). q.place < n) (λ (q : Placed K B). q.place < n + 1) (λ q lt. omega (arith, lt)) placed
          are.below;
      all = λ q of_q lt. all_of q of_q (eq-or-lt_of_le {n = q.place} {m = n} (omega (arith, lt)));
      rising = are.rising;
    }
      where
        all_of : (q : Placed K B) → IsPlaced IsOf entries u d q → (q.place ≡ n) ⊎ (q.place < n) → Contains placed q
        all_of q of_q (inl last) =
            absurd (none q.key q.terms (subst (λ i. slice_get entries i ≡ Some (q.key, q.terms)) last of_q.at) of_q.train of_q.applies)
        all_of q of_q (inr earlier) = are.all q of_q earlier

-- one more element of a list that is mapped
pub map-take_more : {X Y : Type 0} (f : X → Y) (xs : List X) (i : ℕ) (x : X) → i < length xs → x ≡ get_or xs i x
    → map f (take (i + 1) xs) ≡ map f (take i xs) ++ (f x ∷ [])
map-take_more f xs i x below is =
    ap (map f) (take_more xs i x below ∙ ap (λ y. take i xs ++ (y ∷ [])) (sym is)) ∙ map-append f (take i xs) (x ∷ [])

-- ---- in order

then_equal : (a b c : Ordering) → ordering_then a (ordering_then b c) ≡ Equal → c ≡ Equal
then_equal Equal Equal c h = h
then_equal Equal Less c h = absurd (cc)
then_equal Equal Greater c h = absurd (cc)
then_equal Less b c h = absurd (cc)
then_equal Greater b c h = absurd (cc)

equal-places : (m n : ℕ) → nat_cmp m n ≡ Equal → m ≡ n
equal-places m n h = grind (arith, nat_tests)

module _ {K B : Type 0} (cmp : K → K → Ordering) (total : IsTotalOrder cmp) where
  pub placed_total : IsTotalOrder {K = Placed K B} (placed_cmp cmp)
  placed_total =
      then_total (on_total (λ (p : Placed K B). p.key) total)
      (then_total (on_total (λ (p : Placed K B). precedence p.terms) nat_cmp_total)
      (on_total (λ (p : Placed K B). p.place) nat_cmp_total))

  -- of two records at different places that aren't in the wrong order the first is less
  less-by : (p q : Placed K B) (o : Ordering) → placed_cmp cmp p q ≡ o → is_lt (ordering_reverse o) ≡ false → (p.place ≡ q.place → ⊥)
      → placed_cmp cmp p q ≡ Less
  less-by p q Less is right differ = is
  less-by p q Equal is right differ = absurd (differ (equal-places p.place q.place (then_equal (cmp p.key q.key) _ _ is)))
  less-by p q Greater is right differ = absurd (cc)

-- records that are sorted are all of them in order
module _ {X K B : Type 0} (of : X → Placed K B) (cmp : K → K → Ordering) (total : IsTotalOrder cmp) (IsOf : K → List ℕ → Type 0)
    (entries : List (K × Terms B)) (u : List ℕ) (d : ℕ) (xs ys : List X) (moved : IsPermutation xs ys) where
  pub places-differ : AllPairs (λ (p q : Placed K B). p.place < q.place) (map of xs)
      → AllPairs (λ (m n : ℕ). m ≢ n) (map (λ (p : Placed K B). p.place) (map of ys))
  places-differ rising =
      let place = λ (p : Placed K B). p.place in
      let apart : AllPairs (λ (m n : ℕ). m ≢ n) (map place (map of xs)) =
      AllPairs-map place (λ (m n : ℕ). m ≢ n) (map of xs)
      (λ i j e lt below same. let less = rising i j e lt below in absurd (omega (arith, less, same))) in
      AllPairs-from_IsDistinct Decides-eqb _
      (IsDistinct-IsPermutation (λ m n. m == n) (λ m n. grind (arith, nat_tests)) _ _
      (IsPermutation-map place _ _ (IsPermutation-map of xs ys moved)) (IsDistinct-from_AllPairs Decides-eqb _ apart))

  pub placed-sorted : ArePlacedBelow IsOf entries u d (length entries) (map of xs)
      → IsSortedBy (λ x y. is_lt (placed_cmp cmp (of x) (of y))) ys → ArePlacedInOrder cmp IsOf entries u d (map of ys)
  placed-sorted are sorted = record {
    found = All-permutation (IsPlaced IsOf entries u d) _ _ (IsPermutation-map of xs ys moved) are.found;
    all = λ p of_p. Contains-permutation _ _ p (IsPermutation-map of xs ys moved)
        (are.all p of_p (slice_get_within entries p.place _ of_p.at));
    rising = AllPairs-map of (λ p q. placed_cmp cmp p q ≡ Less) ys (λ i j e lt below.
        let le : i ≤ j = omega (arith, lt) in
        let x = get_or ys i e in
        let y = get_or ys j e in
        let far : is_lt (placed_cmp cmp (of y) (of x)) ≡ false =
        sorted_far (λ x y. is_lt (placed_cmp cmp (of x) (of y))) (ranks_by (placed_total cmp total) of) ys sorted i j e le below in
        less-by cmp total (of x) (of y) _ refl
        (ap is_lt (sym ((placed_total cmp total).antisymm (of y) (of x))) ∙ far)
        (λ same. places-differ are.rising i j (of e).place lt
        (omega (arith, below, length-map ys of, length-map (map of ys) (λ (p : Placed K B). p.place)))
        (place-at i e (omega (arith, lt, below)) ∙ same ∙ sym (place-at j e below))));
  }
    where
      place-at : (i : ℕ) (e : X) → i < length ys
          → get_or (map (λ (p : Placed K B). p.place) (map of ys)) i (of e).place ≡ (of (get_or ys i e)).place
      place-at i e below =
          get_or-map (λ (p : Placed K B). p.place) (map of ys) i (of e) (of e).place (omega (arith, below, length-map ys of))
          ∙ ap (λ (p : Placed K B). p.place) (get_or-map of ys i e (of e) below)

-- ---- marks of records in order

-- an element at a position, and that of a list that is mapped
abbrev pub member : {X : Type 0} (xs : List X) (i : ℕ) (d : X) → i < length xs → Contains xs (get_or xs i d)
member xs i d below = (i, below, get_or_default xs i (get_or xs i d) d below)

abbrev pub member-map : {X Y : Type 0} (f : X → Y) (xs : List X) (i : ℕ) (d : X) → i < length xs → Contains (map f xs) (f (get_or xs i d))
member-map f xs i d below = (i, omega (arith, below, length-map xs f), get_or-map f xs i d (f (get_or xs i d)) below)

-- and that of one of those from n on
abbrev pub member-behind : {X Y : Type 0} (f : X → Y) (xs : List X) (n i : ℕ) (x : X) → i < length (slice_range xs n (length xs))
    → x ≡ get_or (slice_range xs n (length xs)) i x → Contains (map f xs) (f x)
member-behind f xs n i x below is =
    let within : n + i < length xs = omega (arith, below, length-take (length xs - n) (drop n xs), length-drop n xs) in (
      n + i,
      omega (arith, within, length-map xs f),
      get_or-map f xs (n + i) x (f x) within
          ∙ ap f (sym (is ∙ get_or-take (length xs - n) (drop n xs) i x (omega (arith, within)) ∙ get_or-drop n xs i x)),
    )

-- numbers that aren't in the wrong order
upto : (m n : ℕ) (o : Ordering) → ordering_then (nat_cmp m n) o ≡ Less → m ≤ n
upto m n o h = grind (arith, nat_tests)

module _ {K B : Type 0} (cmp : K → K → Ordering) (total : IsTotalOrder cmp) (same : (j k : K) → cmp j k ≡ Equal → j ≡ k)
    (placed : List (Placed K B)) (rising : IsRisingBy cmp placed) where
  -- members at one position are one, and those at two are in order
  pub one-member : (p q : Placed K B) (a : Contains placed p) (b : Contains placed q) → a.0 ≡ b.0 → p ≡ q
  one-member p q a b is = sym a.2 ∙ (get_or_default placed a.0 p q a.1 ∙ (ap (λ i. get_or placed i q) is ∙ b.2))

  in-order : (p q : Placed K B) (a : Contains placed p) (b : Contains placed q) → a.0 < b.0 → placed_cmp cmp p q ≡ Less
  in-order p q a b before =
      subst (λ x. placed_cmp cmp x q ≡ Less) a.2
      (subst (λ y. placed_cmp cmp (get_or placed a.0 p) y ≡ Less) (get_or_default placed b.0 p q b.1 ∙ b.2) (rising a.0 b.0 p before b.1))

  abbrev by-place : Placed K B → Placed K B → Ordering
  by-place p q = ordering_then (nat_cmp (precedence p.terms) (precedence q.terms)) (nat_cmp p.place q.place)

  one-key : (j k : K) (o l m : Ordering) → cmp j k ≡ o → ordering_then o l ≡ Less → ordering_then (ordering_reverse o) m ≡ Less → j ≡ k
  one-key j k Less l m is up down = absurd (cc)
  one-key j k Equal l m is up down = same j k is
  one-key j k Greater l m is up down = absurd (cc)

  -- a record between two of one key has this key
  between : (p q r : Placed K B) (a : Contains placed p) (b : Contains placed q) (c : Contains placed r) → a.0 < b.0 → b.0 < c.0
      → r.key ≡ p.key → q.key ≡ p.key
  between p q r a b c before behind is =
      sym (one-key p.key q.key (cmp p.key q.key) (by-place p q) (by-place q r) refl (in-order p q a b before)
      (subst (λ o. ordering_then o (by-place q r) ≡ Less) (ap (cmp q.key) is ∙ total.antisymm q.key p.key) (in-order q r b c behind)))

  -- of two records of one key the first has no later precedence
  precedences-rise : (p q : Placed K B) (a : Contains placed p) (b : Contains placed q) → a.0 < b.0 → q.key ≡ p.key
      → precedence p.terms ≤ precedence q.terms
  precedences-rise p q a b before is =
      upto _ _ (nat_cmp p.place q.place)
      (subst (λ o. ordering_then o (by-place p q) ≡ Less) (ap (cmp p.key) is ∙ tied_itself total p.key) (in-order p q a b before))

  module _ (p : Placed K B) (a : Contains placed p) where
    marked : (m : Mark) → IsMarkOf placed p m → IsMarkAt placed a.0 m
    marked m h = at_read placed (λ p. IsMarkOf placed p m) a.0 p a.1 (sym a.2) h

    -- a record behind one of its key has that one's mark, or is hidden
    module _ (q : Placed K B) (b : Contains placed q) (before : b.0 < a.0) (key : q.key ≡ p.key) where
      pub mark-kept : precedence q.terms ≡ precedence p.terms → (m : Mark) → IsMarkAt placed b.0 m → IsMarkAt placed a.0 m
      mark-kept is m h =
          marked m (subst (λ k. IsMarkAmong placed k (precedence p.terms) m) key
          (subst (λ l. IsMarkAmong placed q.key l m) is (subst (λ r. IsMarkOf placed r m) b.2 (h q))))

      pub mark-hidden : (precedence q.terms ≡ precedence p.terms → ⊥) → IsMarkAt placed a.0 mark.Hidden
      mark-hidden differ =
          let le = precedences-rise q p b a before (sym key) in
          marked mark.Hidden (record { other = q; member = b; key = key; earlier = omega (arith, le, differ) })

    -- the first record of its key
    module _ (first : IsFirstOfKey placed a.0) where
      none-before : (q : Placed K B) (b : Contains placed q) → b.0 < a.0 → q.key ≡ p.key → ⊥
      none-before q b before key = by (eq-or-lt_of_le {n = b.0 + 1} {m = a.0} (omega (arith, before)))
        where
          by : (b.0 + 1 ≡ a.0) ⊎ (b.0 + 1 < a.0) → ⊥
          by (inl is) = first p q a b refl (sym is) key
          by (inr lt) =
              let below = a.1 in
              let c = member placed (a.0 - 1) p (omega (arith, below)) in
              first p (get_or placed (a.0 - 1) p) a c refl (omega (arith, before))
              (between q (get_or placed (a.0 - 1) p) p b c a (omega (arith, lt)) (omega (arith, before)) (sym key) ∙ key)

      -- the records of its key are it and those behind it
      with_key : {Q : Type 0} (q : Placed K B) (b : Contains placed q) → q.key ≡ p.key → (p ≡ q → Q) → (a.0 < b.0 → Q) → Q
      with_key q b key here behind =
          ⊎_elim (λ lt. absurd (none-before q b lt key))
          (λ le. ⊎_elim (λ is. here (one-member p q a b is)) behind (eq-or-lt_of_le {n = a.0} {m = b.0} le)) (cases_lt b.0 a.0)

      least : IsLeast placed p.key (precedence p.terms)
      least q b key =
          with_key q b key (λ is. subst (λ (q : Placed K B). precedence p.terms ≤ precedence q.terms) is (omega arith))
          (λ lt. precedences-rise p q a b lt key)

      pub mark-clash : (q : Placed K B) → Contains placed q → q.key ≡ p.key → precedence q.terms ≡ precedence p.terms
          → (q.terms.body ≡ p.terms.body → ⊥) → IsMarkAt placed a.0 mark.Clash
      mark-clash q b key level differ = marked mark.Clash (
        least,
        record {
          one = q;
          other = p;
          one_level = record { member = b; key = key; same_precedence = level };
          other_level = record { member = a; key = refl; same_precedence = refl };
          bodies_differ = differ;
        },
      )

      -- those before n are like it, and the one at n has another key
      pub mark-wins : (n : ℕ) → a.0 < n → AllWithin (IsLike p) placed (a.0 + 1) n
          → ((q : Placed K B) (b : Contains placed q) → b.0 ≡ n → q.key ≡ p.key → ⊥) → IsMarkAt placed a.0 mark.Wins
      mark-wins n past like end = marked mark.Wins (least, λ q r at_q at_r. its-body q at_q ∙ sym (its-body r at_r))
        where
          its-body : (q : Placed K B) → IsLevel placed p.key (precedence p.terms) q → q.terms.body ≡ p.terms.body
          its-body q at =
              let b = at.member in
              let below = b.1 in
              with_key q b at.key (λ is. subst (λ (q : Placed K B). q.terms.body ≡ p.terms.body) is refl)
              (λ lt. ⊎_elim
              (λ before. (subst (IsLike p) b.2 (like b.0 q (omega (arith, lt)) before)).1 at.same_precedence)
              (λ from. ⊎_elim
              (λ is. absurd (end q b (sym is) at.key))
              (λ behind.
              let c = member placed n p (omega (arith, below, behind)) in
              absurd (end (get_or placed n p) c refl (between p (get_or placed n p) q a c b past behind at.key)))
              (eq-or-lt_of_le {n = n} {m = b.0} from)) (cases_lt b.0 n))

-- ---- marks among all records

module _ {K B : Type 0} (cmp : K → K → Ordering) (IsOf : K → List ℕ → Type 0) (entries : List (K × Terms B)) (u : List ℕ) (d : ℕ)
    (placed : List (Placed K B)) (are : ArePlacedInOrder cmp IsOf entries u d placed) where
  -- a record of a key of the train that applies is among them
  among : (k : K) (r : Terms B) → IsOf k u → of_key entries k r → Applies r d → (i : ℕ) × Contains placed (placed_at i k r)
  among k r train listed applies =
      let place = at-contains entries (k, r) listed in
      (place.0, are.all (placed_at place.0 k r) (record { at = place.1; train = train; applies = applies }))

  module _ (p : Placed K B) (of_p : IsPlaced IsOf entries u d p) where
    at-key : (q : Placed K B) → Contains placed q → q.key ≡ p.key → of_key entries p.key q.terms × Applies q.terms d
    at-key q in_q key =
        let of_q : IsPlaced IsOf entries u d q = All-contains (IsPlaced IsOf entries u d) placed q are.found in_q in
        (subst (λ k. of_key entries k q.terms) key (contains-at entries q.place (q.key, q.terms) of_q.at), of_q.applies)

    module _ (least : IsLeast placed p.key (precedence p.terms)) where
      wins : (q : Placed K B) → IsLevel placed p.key (precedence p.terms) q → Wins (of_key entries p.key) d q.terms
      wins q level =
          let (listed, applies) = at-key q level.member level.key in
          record {
            listed = listed;
            applies = applies;
            least = λ s in_s on.
                let q = among p.key s of_p.train in_s on in
                let le = least (placed_at q.0 p.key s) q.1 refl in omega (arith, le, level.same_precedence);
          }

      level : (s : Terms B) → Contains placed p → Wins (of_key entries p.key) d s
          → (i : ℕ) × IsLevel placed p.key (precedence p.terms) (placed_at i p.key s)
      level s in_p w =
          let q = among p.key s of_p.train w.listed w.applies in
          let one = least (placed_at q.0 p.key s) q.1 refl in
          let here = at-key p in_p refl in
          let other = w.least p.terms here.0 here.1 in
          (q.0, record { member = q.1; key = refl; same_precedence = omega (arith, one, other) })

    pub is-marked : (m : Mark) → Contains placed p → IsMarkOf placed p m → IsMarked (of_key entries p.key) d p.terms m
    is-marked mark.Wins in_p h = (
      wins h.0 p (record { member = in_p; key = refl; same_precedence = refl }),
      record { agree = λ r s w v. h.1 _ _ (level h.0 r in_p w).1 (level h.0 s in_p v).1 },
    )
    is-marked mark.Clash in_p h = (
      wins h.0 p (record { member = in_p; key = refl; same_precedence = refl }),
      record {
        one = h.1.one.terms;
        other = h.1.other.terms;
        one_wins = wins h.0 h.1.one h.1.one_level;
        other_wins = wins h.0 h.1.other h.1.other_level;
        bodies_differ = h.1.bodies_differ;
      },
    )
    is-marked mark.Hidden in_p h = λ w.
        let (listed, applies) = at-key h.other h.member h.key in
        let le = w.least h.other.terms listed applies in
        absurd (omega (arith, le, h.earlier))

  -- records with their marks are explained
  pub explained : (es : List (Explained K B)) → AreMarked placed placed es → AreExplained cmp IsOf entries u d es
  explained es (same, marks) = record {
    rising = λ i j e lt below.
        let rise = subst (AllPairs (λ p q. placed_cmp cmp p q ≡ Less)) (sym same) are.rising in
        let within : j < length (map unmarked es) = omega (arith, below, length-map es unmarked) in
        let here = rise i j (unmarked e) lt within in
        let one = get_or-map unmarked es i e (unmarked e) (omega (arith, lt, below)) in
        let other = get_or-map unmarked es j e (unmarked e) below in
        subst (λ q. placed_cmp cmp (unmarked (get_or es i e)) q ≡ Less) other
        (subst (λ p. placed_cmp cmp p (get_or (map unmarked es) j (unmarked e)) ≡ Less) one here);
    found = λ e in_e.
        let in_placed : Contains placed (unmarked e) = subst (λ ps. Contains ps (unmarked e)) same (Contains-map unmarked es e in_e) in
        let of_e : IsPlaced IsOf entries u d (unmarked e) =
        All-contains (IsPlaced IsOf entries u d) placed (unmarked e) are.found in_placed in
        record {
          at = of_e.at;
          train = of_e.train;
          applies = of_e.applies;
          marked = is-marked (unmarked e) of_e e.mark in_placed
              (All-contains (λ (e : Explained K B). IsMarkOf placed (unmarked e) e.mark) es e marks in_e);
        };
    all = λ i k r at train applies.
        let p : Placed K B = placed_at i k r in
        let in_placed = are.all p (record { at = at; train = train; applies = applies }) in
        let found = Contains-from_map unmarked es p (subst (λ ps. Contains ps p) (sym same) in_placed) in
        let e = found.0 in
        (e.mark, subst (Contains es) (ap (λ (q : Placed K B). marked_as q e.mark) found.2) found.1);
  }

-- one record more with its mark
pub one_marked : {X K B : Type 0} (of : X → Placed K B) (applying : List X) (n : ℕ) (old : List (Explained K B)) (e : Explained K B) (x : X)
    → n < length applying → x ≡ get_or applying n x → unmarked e ≡ of x → IsMarkOf (map of applying) (unmarked e) e.mark
    → AreMarked (map of applying) (map of (take n applying)) old
    → AreMarked (map of applying) (map of (take (n + 1) applying)) (old ++ (e ∷ []))
one_marked {K = K} {B = B} of applying n old e x below is same mark h =
    let HasMark : Explained K B → Type 0 = λ e. IsMarkOf (map of applying) (unmarked e) e.mark in (
      map-append unmarked old (e ∷ []) ∙ ap₂ (λ ps p. ps ++ (p ∷ [])) h.0 same ∙ sym (map-take_more of applying n x below is),
      All-push HasMark old e h.1 mark,
    )
