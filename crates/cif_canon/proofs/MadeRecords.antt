-- The canonical records are made key by key, over positions in the order of their keys.
use Rattle.cif_canon.proofs.Names.{AllZip, AllZip-append, AnyHasKey, AreCanonical, AreCanonicalRecords, AreLawful, AreOfFirstKey}
use Rattle.cif_canon.proofs.Names.{ArePositionsOf, AreRunsOfKey, AreSaid, Contains, Contains-none, Equal, Fault, Form, HasPassed}
use Rattle.cif_canon.proofs.Names.{IsKeyFault, IsRecordsFault, IsRising, IsRunOf, IsTotalOrder, Less, List, Ordering, Permanent, Run, Terms}
use Rattle.cif_canon.proofs.Names.{Window, [], canonical-more, canonical-none, drop, first-leads, inl, inr, key-or-later, later-less}
use Rattle.cif_canon.proofs.Names.{left-before, length, less_one_way, no-entry, none-clear, not_less, of_key, of_key-more, passed-more}
use Rattle.cif_canon.proofs.Names.{records-meaning, refl, rising-after, slice_get_within, subst, sym, take, turn, with_key, ℕ, ⊎_elim, ◌++◌}
use Rattle.cif_canon.proofs.{KeyRecords.bodies-other, KeyRecords.bodies-own, KeyRecords.zip-keyed, Names.◌<◌, Names.◌≡◌, Names.◌⊎◌}
use Rattle.cif_extract.specs.declared.fault.Clash as named
use Rattle.cif_extract.specs.declared.fault.Fault.TheVariants as fault
use Rattle.cif_calendar.proofs.KeyTurns.{decided}

module _ {K B : Type 0} (cmp : K → K → Ordering) (form : Form) (window : Window) (es : List (K × Terms B)) where
  -- the runs are those of all keys but the ones with entries at `rest`, which are after them
  pub record IsMade (runs : List Run) (rest : List ℕ) : Type 0 where
    pub rising : IsRising cmp es rest
    pub passed : HasPassed cmp es rest (AnyHasKey es rest)
    pub records : List (K × Permanent B)
    pub runs_of : AllZip (IsRunOf es) runs records
    pub canonical : AreCanonical cmp form window records
    pub before : (j k : K) (r : Permanent B) → of_key records j r → AnyHasKey es rest k → cmp j k ≡ Less
    pub said : (k : K) → (AnyHasKey es rest k → ⊥) → AreSaid window es k (of_key records k)

  -- at first all positions are left
  module _ (rest : List ℕ) (whole : (i : ℕ) → i < length es → Contains rest i) where
    pub made-nothing : IsRising cmp es rest → IsMade [] rest
    made-nothing rising = record {
      rising = rising;
      passed = λ i j has. inl (whole i (slice_get_within es i (j, has.terms) has.at));
      records = [];
      runs_of = tt;
      canonical = canonical-none cmp form window;
      before = λ j k r in' any. absurd (Contains-none (j, r) in');
      said = λ k none. record {
        clear = none-clear (of_key es k) (no-entry es rest whole k none) window.first window.last;
        say = λ n b within. (
          λ runs. absurd (no-entry es rest whole k none runs.winner runs.wins.listed),
          λ has. absurd (Contains-none (k, has.it) has.listed),
        );
      };
    }

  nobody : (k : K) → AnyHasKey es [] k → ⊥
  nobody k any = Contains-none any.position any.member

  -- in the end none is
  pub made-all : ((k : K) → AreLawful (of_key es k)) → (runs : List Run) → IsMade runs [] → AreCanonicalRecords cmp form window es runs
  made-all lawful runs made = record {
    clear = record { key = λ k. (made.said k (nobody k)).clear };
    records = made.records;
    canonical = made.canonical;
    same_meaning = records-meaning window es made.records lawful (λ k n b within. (made.said k (nobody k)).say n b within);
    runs_of = made.runs_of;
  }

  module _ (total : IsTotalOrder cmp) (same : (j k : K) → cmp j k ≡ Equal → j ≡ k) (runs : List Run) (rest : List ℕ)
      (made : IsMade runs rest) (n : ℕ) (run : AreOfFirstKey cmp es rest n) where
    leads : AnyHasKey es rest run.key
    leads = first-leads cmp es rest n run

    -- the first positions are those of their key
    own-turn : ArePositionsOf es run.key (take n rest)
    own-turn = turn cmp total es rest (AnyHasKey es rest) made.passed run.key leads n run.count

    -- what is later was left, and is after the key
    left : (k : K) → AnyHasKey es (drop n rest) k → AnyHasKey es rest k
    left = left-before cmp total es rest (AnyHasKey es rest) made.passed run.key leads n run.count

    later : (k : K) → AnyHasKey es (drop n rest) k → cmp run.key k ≡ Less
    later = later-less cmp total es rest (AnyHasKey es rest) made.passed run.key leads n run.count

    -- what was left is the key, or later
    either : (k : K) → AnyHasKey es rest k → (k ≡ run.key) ⊎ AnyHasKey es (drop n rest) k
    either = key-or-later cmp total es rest (AnyHasKey es rest) made.passed run.key leads n run.count

    -- no key that is left is before it
    not-before : (j : K) → cmp j run.key ≡ Less → AnyHasKey es rest j → ⊥
    not-before j less any = ⊎_elim
        (λ is. not_less cmp total j run.key is less)
        (λ after. less_one_way cmp total j run.key less (later j after))
        (either j any)

    -- a fault of the run's key is the first, as the keys before are clear
    pub made-fault : (name : K → ℕ → named.Clash) (why : Fault) →
        ((k : K) → ArePositionsOf es k (take n rest) → IsKeyFault name window es k why) → IsRecordsFault cmp name es window why
    made-fault name fault.Memory f = tt
    made-fault name (fault.Ambiguous clash) f =
        let (day, is, first) = f run.key own-turn in record {
          key = run.key;
          day = day;
          is = is;
          first = record { clash = first; clear_before = λ j less. (made.said j (not-before j less)).clear };
        }
    made-fault name _ f = absurd (f run.key own-turn)

    module _ (own : List Run) (owns : (k : K) → ArePositionsOf es k (take n rest) → AreRunsOfKey form window es k own) where
      a : AreRunsOfKey form window es run.key own
      a = owns run.key own-turn

      -- with the records of the run's key the list says what runs for it too
      said-more : (k : K) → (AnyHasKey es (drop n rest) k → ⊥) → (k ≡ run.key) ⊎ (k ≡ run.key → ⊥) →
          AreSaid window es k (of_key (made.records ++ with_key run.key a.own.records) k)
      said-more k none (inl is) =
          subst (λ i. AreSaid window es i (of_key (made.records ++ with_key run.key a.own.records) i)) (sym is) (record {
            clear = a.clear;
            say = λ d b within.
                let bodies = bodies-own made.records run.key a.own.records
                (λ r old. absurd (not_less cmp total run.key run.key refl (made.before run.key run.key r old leads))) d b in
                let say = a.own.say d b within in
                (λ runs. bodies.1 (say.0 runs), λ has. say.1 (bodies.0 has));
          })
      said-more k none (inr apart) =
          let was = made.said k (λ any. ⊎_elim apart none (either k any)) in record {
            clear = was.clear;
            say = λ d b within.
                let bodies = bodies-other made.records run.key a.own.records k apart d b in
                let say = was.say d b within in
                (λ runs. bodies.1 (say.0 runs), λ has. say.1 (bodies.0 has));
          }

      pub made-key : IsMade (runs ++ own) (drop n rest)
      made-key = record {
        rising = rising-after cmp es rest made.rising n;
        passed = passed-more cmp total es rest (AnyHasKey es rest) made.passed run.key leads n run.count (AnyHasKey es (drop n rest)) left
            later;
        records = made.records ++ with_key run.key a.own.records;
        runs_of = AllZip-append (IsRunOf es) runs own made.records (with_key run.key a.own.records) made.runs_of
            (zip-keyed es run.key own a.own.records a.own.runs_of);
        canonical = canonical-more made.records run.key a.own.records cmp total form window made.canonical
            (λ j r in'. made.before j run.key r in' leads) a.own.rising a.own.have_form;
        before = λ j k r in' any. ⊎_elim
            (λ old. made.before j k r old (left k any))
            (λ new. subst (λ i. cmp i k ≡ Less) (sym new.0) (later k any))
            ((of_key-more made.records run.key a.own.records j r).0 in');
        said = λ k none. said-more k none (decided cmp total same k run.key (cmp k run.key) refl);
      }
