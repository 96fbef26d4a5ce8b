-- Keys and their clash days are found one after another, over positions in the order of the keys.
use Rattle.cif_feed.proofs.Names.{AllPairs, AnyHasKey, AreClashDatesOn, AreClashDays, AreFound, AreOfFirstKey, ArePositionsOf, BTreeMap}
use Rattle.cif_feed.proofs.Names.{Clash, Contains, Contains-append_left, Contains-first, Contains-get_or, Contains-none, Contains-push}
use Rattle.cif_feed.proofs.Names.{Contains-push_cases, Contains-rest, CountsAmong, DroppedKey, Equal, Greater, Holidays, IsKeyReported}
use Rattle.cif_feed.proofs.Names.{IsReported, IsRising, IsTotalOrder, Less, List, None, Option, Ordering, PublishedTerms, ReadsDates}
use Rattle.cif_feed.proofs.Names.{RisingDays, Terms, [], all_pairs_push, ap, append-nil, append_assoc, ap₂, arith, code_list, cond, days_in}
use Rattle.cif_feed.proofs.Names.{days_with, drop, get, get_or, has-key, inl, is_eq, keyed, length, map, map-append, not_less, published_by}
use Rattle.cif_feed.proofs.Names.{refl, slice_get_within, subst, sym, take, tied_itself, ℕ, ⊎_elim, ◌++◌, ◌<◌, ◌↔◌, ◌∙◌, ◌∷◌, ◌≡◌, ◌⊎◌}
use Rattle.std.specs.Map.{lookup}
use Rattle.cif_calendar.proofs.KeyTurns.{decided, first-leads, no-entry, one-key, rising-after}
use Rattle.cif_calendar.proofs.PassedKeys.{HasPassed, key-or-later, later-less, left-before, passed-more, turn}
use Rattle.cif_calendar.specs.Keys.{of_key}
use Rattle.cif_feed.{proofs.CountedClashes.counted-days, specs.Dropped.reported_as}

-- a key is reported by its first position
pub key-reported : {A K B R : Type 0} (h : Holidays) (key : A → K) (terms : A → Terms B) (published : A → PublishedTerms B)
    → ((x : A) → (published x).terms ≡ terms x) → (xs : List A) (members : List ℕ) (cmp : K → K → Ordering)
    (name : K → ℕ → Clash) (stands_for : R → K → Type 0) (first to : ℕ) (known all : List DroppedKey) (old new : R → Option RisingDays)
    (entry : A) (found : List ℕ) → 0 < length members → get_or members 0 0 < length xs → entry ≡ get_or xs (get_or members 0 0) entry
    → AreClashDatesOn (CountsAmong h published xs members code_list) first to found
    → IsReported cmp name stands_for (key entry) found known all old new → (k : K) → ArePositionsOf (keyed key terms xs) k members
    → IsKeyReported cmp name stands_for (AreClashDays h (published_by key published xs) first to) k known all old new
key-reported h key terms published own xs members cmp name stands_for first to known all old new entry found some below is dates reported
    k p =
    let position = get_or members 0 0 in
    let at = p.found position (Contains-get_or members 0 0 some) in
    let same = one-key (keyed key terms xs) position (key entry) k (has-key key terms xs position entry below is)
    (record { terms = at.0; at = at.1 }) in (
      found,
      counted-days h key terms published own xs k members p first to found dates,
      subst (λ j. IsReported cmp name stands_for j found known all old new) same reported,
    )

-- ---- maps

map-agree : {A B : Type 0} (f g : A → B) (xs : List A) → ((x : A) → Contains xs x → f x ≡ g x) → map f xs ≡ map g xs
map-agree f g [] same = refl
map-agree {A} {B} f g (x ∷ xs) same =
    ap₂ (λ (y : B) (ys : List B). y ∷ ys) (same x (Contains-first x xs)) (map-agree f g xs (λ y has. same y (Contains-rest x xs y has)))

-- ---- what is found in a map

-- in an empty one nothing is
pub get-none : {R X : Type 0} (cmp : R → R → Ordering) (m : BTreeMap R X) → m.entries ≡ [] → (r : R) → get cmp m r ≡ None
get-none cmp m empty r = ap (lookup (λ k. is_eq (cmp r k))) empty

pub reads-none : {R K : Type 0} (stands_for : R → K → Type 0) (found : R → Option RisingDays) → ((r : R) → found r ≡ None)
    → ReadsDates stands_for (λ k. []) found
reads-none stands_for found none r k stands = ap days_in (none r)

-- ---- keys

module _ {K : Type 0} (cmp : K → K → Ordering) (total : IsTotalOrder cmp) (same : (j k : K) → cmp j k ≡ Equal → j ≡ k) (k : K)
    (found : List ℕ) (days : K → List ℕ) where
  pub with-same : days_with cmp k found days k ≡ found
  with-same = ap (λ o. cond (is_eq o) found (days k)) (tied_itself total k)

  other-by : (j : K) → (j ≡ k → ⊥) → (o : Ordering) → cmp k j ≡ o → cond (is_eq o) found (days j) ≡ days j
  other-by j apart Less e = refl
  other-by j apart Equal e = absurd (apart (sym (same k j e)))
  other-by j apart Greater e = refl

  pub with-other : (j : K) → (j ≡ k → ⊥) → days_with cmp k found days j ≡ days j
  with-other j apart = other-by j apart (cmp k j) refl

-- ---- one key after another

module _ {K B : Type 0} (cmp : K → K → Ordering) (es : List (K × Terms B)) (Are : K → List ℕ → Type 0) where
  -- these keys have clash days, and so have no others but those with entries at `rest`, which are after them
  pub record AreSearched (keys : List K) (days : K → List ℕ) (rest : List ℕ) : Type 0 where
    pub rising : IsRising cmp es rest
    pub passed : HasPassed cmp es rest (AnyHasKey es rest)
    pub keys_rising : AllPairs (λ (j : K) (k : K). cmp j k ≡ Less) keys
    pub before : (j k : K) → Contains keys j → AnyHasKey es rest k → cmp j k ≡ Less
    pub each : (k : K) → Contains keys k ↔ (0 < length (days k))
    pub done : (k : K) → (AnyHasKey es rest k → ⊥) → Are k (days k)
    pub ahead : (k : K) → AnyHasKey es rest k → days k ≡ []

  searched-nothing : ((k : K) → ((r : Terms B) → of_key es k r → ⊥) → Are k []) → (rest : List ℕ)
      → ((i : ℕ) → i < length es → Contains rest i) → IsRising cmp es rest → AreSearched [] (λ k. []) rest
  searched-nothing empty rest whole rising = record {
    rising = rising;
    passed = λ i j has. inl (whole i (slice_get_within es i (j, has.terms) has.at));
    keys_rising = λ i j d less below. absurd (omega arith);
    before = λ j k has any. absurd (Contains-none j has);
    each = λ k. (λ has. absurd (Contains-none k has), λ some. absurd (let none : 0 < 0 = some in omega arith));
    done = λ k none. empty k (no-entry es rest whole k none);
    ahead = λ k any. refl;
  }

  module _ (total : IsTotalOrder cmp) (same : (j k : K) → cmp j k ≡ Equal → j ≡ k) (keys : List K) (days : K → List ℕ) (rest : List ℕ)
      (s : AreSearched keys days rest) (n : ℕ) (run : AreOfFirstKey cmp es rest n) where
    leads : AnyHasKey es rest run.key
    leads = first-leads cmp es rest n run

    -- the first positions are those of their key
    pub own-turn : ArePositionsOf es run.key (take n rest)
    own-turn = turn cmp total es rest (AnyHasKey es rest) s.passed run.key leads n run.count

    left : (k : K) → AnyHasKey es (drop n rest) k → AnyHasKey es rest k
    left = left-before cmp total es rest (AnyHasKey es rest) s.passed run.key leads n run.count

    later : (k : K) → AnyHasKey es (drop n rest) k → cmp run.key k ≡ Less
    later = later-less cmp total es rest (AnyHasKey es rest) s.passed run.key leads n run.count

    passed-on : HasPassed cmp es (drop n rest) (AnyHasKey es (drop n rest))
    passed-on = passed-more cmp total es rest (AnyHasKey es rest) s.passed run.key leads n run.count (AnyHasKey es (drop n rest)) left later

    gone : (k : K) → (AnyHasKey es (drop n rest) k → ⊥) → (k ≡ run.key → ⊥) → AnyHasKey es rest k → ⊥
    gone k none apart any = ⊎_elim apart none (key-or-later cmp total es rest (AnyHasKey es rest) s.passed run.key leads n run.count k any)

    is_key : (k : K) → (k ≡ run.key) ⊎ (k ≡ run.key → ⊥)
    is_key k = decided cmp total same k run.key (cmp k run.key) refl

    -- a key without a clash
    searched-clear : Are run.key [] → AreSearched keys days (drop n rest)
    searched-clear clear = record {
      rising = rising-after cmp es rest s.rising n;
      passed = passed-on;
      keys_rising = s.keys_rising;
      before = λ j k has any. s.before j k has (left k any);
      each = s.each;
      done = λ k none. ⊎_elim
          (λ is. subst (λ j. Are j (days j)) (sym is) (subst (Are run.key) (sym (s.ahead run.key leads)) clear))
          (λ apart. s.done k (gone k none apart))
          (is_key k);
      ahead = λ k any. s.ahead k (left k any);
    }

    -- a key with clash days
    module _ (found : List ℕ) (some : 0 < length found) (are : Are run.key found) where
      abbrev now : K → List ℕ
      now = days_with cmp run.key found days

      other : (k : K) → (k ≡ run.key → ⊥) → now k ≡ days k
      other = with-other cmp total same run.key found days

      own : now run.key ≡ found
      own = with-same cmp total same run.key found days

      after : (k : K) → AnyHasKey es (drop n rest) k → k ≡ run.key → ⊥
      after k any is = not_less cmp total run.key k (sym is) (later k any)

      searched-clash : AreSearched (keys ++ run.key ∷ []) now (drop n rest)
      searched-clash = record {
        rising = rising-after cmp es rest s.rising n;
        passed = passed-on;
        keys_rising = all_pairs_push (λ (j : K) (k : K). cmp j k ≡ Less) keys run.key s.keys_rising
            (λ i e below. s.before (get_or keys i e) run.key (Contains-get_or keys i e below) leads);
        before = λ j k has any. ⊎_elim
            (λ old. s.before j k old (left k any))
            (λ is. subst (λ i. cmp i k ≡ Less) is (later k any))
            (Contains-push_cases keys run.key j has);
        each = λ k. (
          λ has. ⊎_elim
              (λ is. subst (λ l. 0 < length l) (sym (subst (λ j. now j ≡ found) (sym is) own)) some)
              (λ apart. subst (λ l. 0 < length l) (sym (other k apart)) (⊎_elim
              (λ old. (s.each k).0 old)
              (λ is. absurd (apart (sym is)))
              (Contains-push_cases keys run.key k has)))
              (is_key k),
          λ long. ⊎_elim
              (λ is. subst (Contains (keys ++ run.key ∷ [])) (sym is) (Contains-push keys run.key))
              (λ apart. Contains-append_left keys (run.key ∷ []) k ((s.each k).1 (subst (λ l. 0 < length l) (other k apart) long)))
              (is_key k),
        );
        done = λ k none. ⊎_elim
            (λ is. subst (λ j. Are j (now j)) (sym is) (subst (Are run.key) (sym own) are))
            (λ apart. subst (Are k) (sym (other k apart)) (s.done k (gone k none apart)))
            (is_key k);
        ahead = λ k any. other k (after k any) ∙ s.ahead k (left k any);
      }

      -- what is reported of the other keys is the same
      reported-same : (name : K → ℕ → Clash) → map (reported_as name now) keys ≡ map (reported_as name days) keys
      reported-same name = map-agree (reported_as name now) (reported_as name days) keys (λ j has.
          ap (λ l. reported_as name (λ _. l) j) (other j (λ is. not_less cmp total j run.key is (s.before j run.key has leads))))

  -- These keys are reported behind those that were known, and their days are found for what stands for them.
  module _ {R : Type 0} (name : K → ℕ → Clash) (stands_for : R → K → Type 0) (known : List DroppedKey) where
    pub record AreFoundUpTo (all : List DroppedKey) (found : R → Option RisingDays) (rest : List ℕ) : Type 0 where
      pub keys : List K
      pub days : K → List ℕ
      pub searched : AreSearched keys days rest
      pub added : all ≡ known ++ map (reported_as name days) keys
      pub reads : ReadsDates stands_for days found

    pub found-nothing : ((k : K) → ((r : Terms B) → of_key es k r → ⊥) → Are k []) → (rest : List ℕ)
        → ((i : ℕ) → i < length es → Contains rest i) → IsRising cmp es rest → (found : R → Option RisingDays)
        → ((r : R) → found r ≡ None) → AreFoundUpTo known found rest
    found-nothing empty rest whole rising found none = record {
      keys = [];
      days = λ k. [];
      searched = searched-nothing empty rest whole rising;
      added = sym (append-nil known);
      reads = λ r k stands. ap days_in (none r);
    }

    pub found-all : (all : List DroppedKey) (found : R → Option RisingDays) → AreFoundUpTo all found []
        → AreFound cmp name stands_for Are known all found
    found-all all found a =
        let s = a.searched in record {
          keys = a.keys;
          days = a.days;
          are = record { rising = s.keys_rising; each = s.each; are = λ k. s.done k (λ any. Contains-none any.position any.member) };
          added = a.added;
          reads = a.reads;
        }

    -- one key more
    found-one : IsTotalOrder cmp → ((j k : K) → cmp j k ≡ Equal → j ≡ k) → (all more : List DroppedKey)
        (old new : R → Option RisingDays) (rest : List ℕ) → AreFoundUpTo all old rest → (n : ℕ) (run : AreOfFirstKey cmp es rest n)
        → (dates : List ℕ) → Are run.key dates → IsReported cmp name stands_for run.key dates all more old new
        → AreFoundUpTo more new (drop n rest)
    found-one total same all more old new rest a n run [] its t =
        let none = t.none refl in record {
          keys = a.keys;
          days = a.days;
          searched = searched-clear total same a.keys a.days rest a.searched n run its;
          added = none.0 ∙ a.added;
          reads = λ r k stands. ap days_in (none.1 r) ∙ a.reads r k stands;
        }
    found-one total same all more old new rest a n run (d ∷ ds) its t =
        let some : 0 < length (d ∷ ds) = omega arith in
        let days : K → List ℕ = days_with cmp run.key (d ∷ ds) a.days in record {
          keys = a.keys ++ run.key ∷ [];
          days = days;
          searched = searched-clash total same a.keys a.days rest a.searched n run (d ∷ ds) some its;
          added = t.reported some
              ∙ ap₂ (λ (xs ys : List DroppedKey). xs ++ ys) a.added
              (ap (λ l. reported_as name (λ _. l) run.key ∷ []) (sym (with-same cmp total same run.key (d ∷ ds) a.days)))
              ∙ append_assoc known (map (reported_as name a.days) a.keys) (reported_as name days run.key ∷ [])
              ∙ ap (λ l. known ++ l) (ap (λ l. l ++ reported_as name days run.key ∷ [])
              (sym (reported-same total same a.keys a.days rest a.searched n run (d ∷ ds) some its name))
              ∙ sym (map-append (reported_as name days) a.keys (run.key ∷ [])));
          reads = t.reads some a.days a.reads;
        }

    pub found-more : IsTotalOrder cmp → ((j k : K) → cmp j k ≡ Equal → j ≡ k) → (all more : List DroppedKey)
        (old new : R → Option RisingDays) (rest : List ℕ) → AreFoundUpTo all old rest → (n : ℕ) (run : AreOfFirstKey cmp es rest n)
        → ((k : K) → ArePositionsOf es k (take n rest) → IsKeyReported cmp name stands_for Are k all more old new)
        → AreFoundUpTo more new (drop n rest)
    found-more total same all more old new rest a n run own =
        let (dates, its, t) = own run.key (own-turn total same a.keys a.days rest a.searched n run) in
        found-one total same all more old new rest a n run dates its t
