-- The clashes are found key by key, over positions in the order of their keys.
use Rattle.cif_calendar.proofs.Names.{All, All-push, AllPairs, Ambiguous, AnyHasKey, AreOfFirstKey, ArePositionsOf, CalendarFault, Contains}
use Rattle.cif_calendar.proofs.Names.{Contains-append_left, Contains-get_or, Contains-push, Contains-push_cases, Equal, IsAddedOfKey}
use Rattle.cif_calendar.proofs.Names.{IsChosen, IsClearFrom, IsFault, IsFaultAdded, IsFirstClash, IsRising, IsTotalOrder, KeyClash, Less}
use Rattle.cif_calendar.proofs.Names.{List, Memory, Option, Ordering, Some, Terms, [], all_pairs_push, ap, ap₂, arith, drop, get_or, inl}
use Rattle.cif_calendar.proofs.Names.{inr, keyed, length, map, map-append, of_key, option_map, refl, slice_get_within, subst, sym, take, ℕ}
use Rattle.cif_calendar.proofs.Names.{⊎_elim, ◌++◌, ◌<◌, ◌∙◌, ◌∷◌, ◌≡◌}
use Rattle.cif_calendar.proofs.KeyTurns.{decided, first-leads, no-entry, rising-after}
use Rattle.cif_calendar.proofs.{NoEntries.none-clear, Positions.positions-records, RisingLists.Contains-none, Sets.IsFirstClash-same}
use Rattle.cif_calendar.proofs.PassedKeys.{HasPassed, key-or-later, later-less, left-before, passed-more, turn}
use Rattle.cif_calendar.specs.Clashes.{AreClashes, StandForClashes, key_and_day}

module _ {K B : Type 0} (cmp : K → K → Ordering) (es : List (K × Terms B)) (first last : ℕ) where
  -- the clashes of all keys but the ones with entries at `rest`, which are after them
  pub record IsSearched (found : List (K × ℕ)) (rest : List ℕ) : Type 0 where
    pub rising : IsRising cmp es rest
    pub passed : HasPassed cmp es rest (AnyHasKey es rest)
    pub found_rising : AllPairs (λ (x : K × ℕ) (y : K × ℕ). cmp x.0 y.0 ≡ Less) found
    pub before : (x : K × ℕ) (k : K) → Contains found x → AnyHasKey es rest k → cmp x.0 k ≡ Less
    pub clashes : (k : K) (d : ℕ) → Contains found (k, d) → IsFirstClash (of_key es k) first last d
    pub others : (k : K) → (AnyHasKey es rest k → ⊥) → ((d : ℕ) → Contains found (k, d) → ⊥) → IsClearFrom (of_key es k) first last

  -- at first all positions are left
  module _ (rest : List ℕ) (whole : (i : ℕ) → i < length es → Contains rest i) where
    pub searched-nothing : IsRising cmp es rest → IsSearched [] rest
    searched-nothing rising = record {
      rising = rising;
      passed = λ i j has. inl (whole i (slice_get_within es i (j, has.terms) has.at));
      found_rising = λ i j d less below. absurd (omega arith);
      before = λ x k in' any. absurd (Contains-none x in');
      clashes = λ k d in'. absurd (Contains-none (k, d) in');
      others = λ k none absent. none-clear (of_key es k) (no-entry es rest whole k none) first last;
    }

  -- in the end none is
  pub searched-all : (found : List (K × ℕ)) → IsSearched found [] → AreClashes cmp es first last found
  searched-all found s = record {
    rising = s.found_rising;
    clashes = s.clashes;
    others = λ k absent. s.others k (λ any. Contains-none any.position any.member) absent;
  }

  module _ (total : IsTotalOrder cmp) (same : (j k : K) → cmp j k ≡ Equal → j ≡ k) (found : List (K × ℕ)) (rest : List ℕ)
      (s : IsSearched found rest) (n : ℕ) (run : AreOfFirstKey cmp es rest n) where
    leads : AnyHasKey es rest run.key
    leads = first-leads cmp es rest n run

    -- the first positions are those of their key
    own-turn : ArePositionsOf es run.key (take n rest)
    own-turn = turn cmp total es rest (AnyHasKey es rest) s.passed run.key leads n run.count

    -- what is later was left, and is after the key
    left : (k : K) → AnyHasKey es (drop n rest) k → AnyHasKey es rest k
    left = left-before cmp total es rest (AnyHasKey es rest) s.passed run.key leads n run.count

    later : (k : K) → AnyHasKey es (drop n rest) k → cmp run.key k ≡ Less
    later = later-less cmp total es rest (AnyHasKey es rest) s.passed run.key leads n run.count

    passed-on : HasPassed cmp es (drop n rest) (AnyHasKey es (drop n rest))
    passed-on = passed-more cmp total es rest (AnyHasKey es rest) s.passed run.key leads n run.count (AnyHasKey es (drop n rest)) left later

    gone : (k : K) → (AnyHasKey es (drop n rest) k → ⊥) → (k ≡ run.key → ⊥) → AnyHasKey es rest k → ⊥
    gone k none apart any = ⊎_elim apart none (key-or-later cmp total es rest (AnyHasKey es rest) s.passed run.key leads n run.count k any)

    -- a key without a clash
    searched-clear : IsClearFrom (of_key es run.key) first last → IsSearched found (drop n rest)
    searched-clear clear = record {
      rising = rising-after cmp es rest s.rising n;
      passed = passed-on;
      found_rising = s.found_rising;
      before = λ x k in' any. s.before x k in' (left k any);
      clashes = s.clashes;
      others = λ k none absent. ⊎_elim
          (λ is. subst (λ j. IsClearFrom (of_key es j) first last) (sym is) clear)
          (λ apart. s.others k (gone k none apart) absent)
          (decided cmp total same k run.key (cmp k run.key) refl);
    }

    -- a key with one
    searched-clash : (d : ℕ) → IsFirstClash (of_key es run.key) first last d → IsSearched (found ++ ((run.key, d) ∷ [])) (drop n rest)
    searched-clash d clash = record {
      rising = rising-after cmp es rest s.rising n;
      passed = passed-on;
      found_rising = all_pairs_push (λ (x : K × ℕ) (y : K × ℕ). cmp x.0 y.0 ≡ Less) found (run.key, d) s.found_rising
          (λ i e below. s.before (get_or found i e) run.key (Contains-get_or found i e below) leads);
      before = λ x k in' any. ⊎_elim
          (λ old. s.before x k old (left k any))
          (λ is. subst (λ (y : K × ℕ). cmp y.0 k ≡ Less) is (later k any))
          (Contains-push_cases found (run.key, d) x in');
      clashes = λ k e in'. ⊎_elim
          (λ old. s.clashes k e old)
          (λ is. subst (λ (y : K × ℕ). IsFirstClash (of_key es y.0) first last y.1) is clash)
          (Contains-push_cases found (run.key, d) (k, e) in');
      others = λ k none absent. ⊎_elim
          (λ is. absurd (absent d
          (subst (λ j. Contains (found ++ ((run.key, d) ∷ [])) (j, d)) (sym is) (Contains-push found (run.key, d)))))
          (λ apart. s.others k (gone k none apart)
          (λ e in'. absent e (Contains-append_left found ((run.key, d) ∷ []) (k, e) in')))
          (decided cmp total same k run.key (cmp k run.key) refl);
    }

  -- what was found stands for the clashes of all keys but the ones with entries at `rest`
  pub record AreFound (found : List KeyClash) (rest : List ℕ) : Type 0 where
    pub clashes : List (K × ℕ)
    pub searched : IsSearched clashes rest
    pub stand_for : map (key_and_day es) found ≡ map Some clashes

  pub found-nothing : (rest : List ℕ) → ((i : ℕ) → i < length es → Contains rest i) → IsRising cmp es rest → AreFound [] rest
  found-nothing rest whole rising = record { clashes = []; searched = searched-nothing rest whole rising; stand_for = refl }

  pub found-all : (found : List KeyClash) → AreFound found [] → StandForClashes cmp es first last found
  found-all found a = record { clashes = a.clashes; are = searched-all a.clashes a.searched; stand_for = a.stand_for }

  -- one key more
  pub found-key : IsTotalOrder cmp → ((j k : K) → cmp j k ≡ Equal → j ≡ k) → (found more : List KeyClash) (rest : List ℕ) →
      AreFound found rest → (n : ℕ) → AreOfFirstKey cmp es rest n →
      ((k : K) → ArePositionsOf es k (take n rest) → IsAddedOfKey es first last k found more) → AreFound more (drop n rest)
  found-key total same found more rest a n run own = ⊎_elim
      (λ clear. record {
        clashes = a.clashes;
        searched = searched-clear total same a.clashes rest a.searched n run clear.0;
        stand_for = ap (map (key_and_day es)) clear.1 ∙ a.stand_for;
      })
      (λ added. record {
        clashes = a.clashes ++ ((run.key, added.day) ∷ []);
        searched = searched-clash total same a.clashes rest a.searched n run added.day added.clash;
        stand_for = ap (map (key_and_day es)) added.added ∙ map-append (key_and_day es) found (added.one ∷ [])
            ∙ ap₂ (λ (xs ys : List (Option (K × ℕ))). xs ++ ys) a.stand_for (ap (λ o. o ∷ []) added.stands_for)
            ∙ sym (map-append Some a.clashes ((run.key, added.day) ∷ []));
      })
      (own run.key (own-turn total same a.clashes rest a.searched n run))

-- the first clash of a key, by a position of the key, comes behind what was found
clash-added : {E K B : Type 0} (key : E → K) (terms : E → Terms B) (es : List E) (first last : ℕ) (k : K) (members : List ℕ) →
    ArePositionsOf (keyed key terms es) k members → (one : KeyClash) → Contains members one.position →
    IsFirstClash (IsChosen (map terms es) members) first last one.day → (found more : List KeyClash) → more ≡ found ++ (one ∷ []) →
    IsAddedOfKey (keyed key terms es) first last k found more
clash-added {K = K} {B = B} key terms es first last k members p one member clash found more is =
    let at = p.found one.position member in
    inr (record {
      day = one.day;
      clash = IsFirstClash-same _ _ (positions-records key terms es k members p) first last one.day clash;
      one = one;
      stands_for = ap (λ o. option_map (λ (e : K × Terms B). (e.0, one.day)) o) at.1;
      added = is;
    })

-- what a fault of a key's calendar reports is the first clash of the key
pub fault-added : {E K B : Type 0} (key : E → K) (terms : E → Terms B) (es : List E) (first last : ℕ) (k : K) (members : List ℕ) →
    ArePositionsOf (keyed key terms es) k members → (i : ℕ) → Contains members i → (fault : CalendarFault) →
    IsFault (IsChosen (map terms es) members) first last fault → (found more : List KeyClash) → IsFaultAdded i fault found more →
    IsAddedOfKey (keyed key terms es) first last k found more
fault-added key terms es first last k members p i member (Ambiguous d) clash found more is =
    clash-added key terms es first last k members p (record { position = i; day = d }) member clash found more is
fault-added key terms es first last k members p i member Memory h found more is = absurd is

-- and its position is within the entries
pub fault-within : (n i : ℕ) → i < n → (fault : CalendarFault) (found more : List KeyClash) → IsFaultAdded i fault found more →
    All (λ (clash : KeyClash). clash.position < n) found → All (λ (clash : KeyClash). clash.position < n) more
fault-within n i below (Ambiguous d) found more is within =
    subst (All (λ (clash : KeyClash). clash.position < n)) (sym is)
    (All-push (λ (clash : KeyClash). clash.position < n) found (record { position = i; day = d }) within below)
fault-within n i below Memory found more is within = absurd is
