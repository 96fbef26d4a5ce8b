-- The rows of all trains, made train by train over positions in the order of their trains.
use Rattle.cif_feed.proofs.Names.{AnyHasKey, AreOfFirstKey, ArePositionsOf, Contains, Contains-none, Equal, IsRising, IsTotalOrder, Less, List}
use Rattle.cif_feed.proofs.Names.{Ordering, Terms, [], drop, inl, length, not_less, refl, slice_get_within, subst, sym, take, ℕ, ⊎_elim, ◌++◌}
use Rattle.cif_feed.proofs.Names.{AllPairs, inr, ◌<◌, ◌↔◌, ◌≡◌, ◌⊎◌}
use Rattle.cif_calendar.proofs.KeyTurns.{decided, first-leads, no-entry, rising-after}
use Rattle.cif_calendar.proofs.PassedKeys.{HasPassed, key-or-later, later-less, left-before, passed-more, turn}
use Rattle.cif_calendar.specs.Keys.{of_key}
use Rattle.cif_weeks.proofs.KeyByKey.{HasBody-more, canonical-more, canonical-none, of_key-more}
use Rattle.cif_weeks.specs.{Canonical.AreCanonical, Canonical.with_key, HaveForm.HaveForm, Permanent.Permanent, Permanent.Permanents, WhatRuns.HasBody}
use Rattle.cif_weeks.specs.{Window.IsWithin, Window.Window, declared.form.Form.TheVariants.Three}

same-bodies : {B : Type 0} (us vs : Permanents B) → ((r : Permanent B) → us r ↔ vs r) → (d : ℕ) (b : B) → HasBody us d b ↔ HasBody vs d b
same-bodies us vs same d b = (λ h. HasBody-more us vs (λ r. (same r).0) d b h, λ h. HasBody-more vs us (λ r. (same r).1) d b h)

module _ {K B : Type 0} (cmp : K → K → Ordering) (window : Window) (es : List (K × Terms B)) (on : K → ℕ → ℕ → Type 0) where
  -- the rows of a key show what is said of it
  Says : K → Permanents ℕ → Type 0
  Says k rows = (n i : ℕ) → IsWithin window n → on k n i ↔ HasBody rows n i

  -- the rows are those of all keys but the ones with entries at `rest`, which are after them
  pub record IsMade (rows : List (K × Permanent ℕ)) (rest : List ℕ) : Type 0 where
    pub rising : IsRising cmp es rest
    pub passed : HasPassed cmp es rest (AnyHasKey es rest)
    pub canonical : AreCanonical cmp Three window rows
    pub before : (j k : K) (r : Permanent ℕ) → of_key rows j r → AnyHasKey es rest k → cmp j k ≡ Less
    pub said : (k : K) → (AnyHasKey es rest k → ⊥) → (n i : ℕ) → IsWithin window n → on k n i ↔ HasBody (of_key rows k) n i

  -- at first all positions are left
  pub made-nothing : ((k : K) → ((r : Terms B) → of_key es k r → ⊥) → (n i : ℕ) → on k n i → ⊥) → (rest : List ℕ)
      → ((i : ℕ) → i < length es → Contains rest i) → IsRising cmp es rest → IsMade [] rest
  made-nothing nobody rest whole rising = record {
    rising = rising;
    passed = λ i j has. inl (whole i (slice_get_within es i (j, has.terms) has.at));
    canonical = canonical-none cmp Three window;
    before = λ j k r in' any. absurd (Contains-none (j, r) in');
    said = λ k none n i within. (
      λ is. absurd (nobody k (no-entry es rest whole k none) n i is),
      λ has. absurd (Contains-none (k, has.it) has.listed),
    );
  }

  -- in the end none is
  pub made-all : (rows : List (K × Permanent ℕ)) → IsMade rows [] → (k : K) (n i : ℕ) → IsWithin window n
      → on k n i ↔ HasBody (of_key rows k) n i
  made-all rows made k = made.said k (λ any. Contains-none any.position any.member)

  module _ (total : IsTotalOrder cmp) (same : (j k : K) → cmp j k ≡ Equal → j ≡ k) (rows : List (K × Permanent ℕ)) (rest : List ℕ)
      (made : IsMade rows rest) (n : ℕ) (run : AreOfFirstKey cmp es rest n) where
    leads : AnyHasKey es rest run.key
    leads = first-leads cmp es rest n run

    -- the first positions are those of their key
    pub own-turn : ArePositionsOf es run.key (take n rest)
    own-turn = turn cmp total es rest (AnyHasKey es rest) made.passed run.key leads n run.count

    left : (k : K) → AnyHasKey es (drop n rest) k → AnyHasKey es rest k
    left = left-before cmp total es rest (AnyHasKey es rest) made.passed run.key leads n run.count

    later : (k : K) → AnyHasKey es (drop n rest) k → cmp run.key k ≡ Less
    later = later-less cmp total es rest (AnyHasKey es rest) made.passed run.key leads n run.count

    either : (k : K) → AnyHasKey es rest k → (k ≡ run.key) ⊎ AnyHasKey es (drop n rest) k
    either = key-or-later cmp total es rest (AnyHasKey es rest) made.passed run.key leads n run.count

    module _ (own : List (Permanent ℕ)) (rising : AllPairs (λ (r : Permanent ℕ) (s : Permanent ℕ). r.first < s.first) own)
        (form : HaveForm Three window (Contains own))
        (says : (d i : ℕ) → IsWithin window d → on run.key d i ↔ HasBody (Contains own) d i) where
      abbrev more : List (K × Permanent ℕ)
      more = rows ++ with_key run.key own

      own-bodies : (d b : ℕ) → HasBody (of_key more run.key) d b ↔ HasBody (Contains own) d b
      own-bodies d b = same-bodies (of_key more run.key) (Contains own)
          (λ r. let parts = of_key-more rows run.key own run.key r in (
            λ h. ⊎_elim (λ old. absurd (not_less cmp total run.key run.key refl (made.before run.key run.key r old leads))) (λ new. new.1)
                (parts.0 h),
            λ new. parts.1 (inr (refl, new)),
          )) d b

      other-bodies : (j : K) → (j ≡ run.key → ⊥) → (d b : ℕ) → HasBody (of_key more j) d b ↔ HasBody (of_key rows j) d b
      other-bodies j apart d b = same-bodies (of_key more j) (of_key rows j)
          (λ r. let parts = of_key-more rows run.key own j r in (
            λ h. ⊎_elim (λ old. old) (λ new. absurd (apart new.0)) (parts.0 h),
            λ old. parts.1 (inl old),
          )) d b

      said-more : (k : K) → (AnyHasKey es (drop n rest) k → ⊥) → (k ≡ run.key) ⊎ (k ≡ run.key → ⊥) → (d i : ℕ) → IsWithin window d
          → on k d i ↔ HasBody (of_key more k) d i
      said-more k none (inl is) d i within =
          subst (λ (j : K). on j d i ↔ HasBody (of_key more j) d i) (sym is) (
          let bodies = own-bodies d i in
          let say = says d i within in
          (λ told. bodies.1 (say.0 told), λ has. say.1 (bodies.0 has))
          )
      said-more k none (inr apart) d i within =
          let bodies = other-bodies k apart d i in
          let say = made.said k (λ any. ⊎_elim apart none (either k any)) d i within in
          (λ told. bodies.1 (say.0 told), λ has. say.1 (bodies.0 has))

      -- with the rows of one key more
      pub made-key : IsMade more (drop n rest)
      made-key = record {
        rising = rising-after cmp es rest made.rising n;
        passed = passed-more cmp total es rest (AnyHasKey es rest) made.passed run.key leads n run.count (AnyHasKey es (drop n rest)) left
            later;
        canonical = canonical-more rows run.key own cmp total Three window made.canonical
            (λ j r in'. made.before j run.key r in' leads) rising form;
        before = λ j k r in' any. ⊎_elim
            (λ old. made.before j k r old (left k any))
            (λ new. subst (λ (i : K). cmp i k ≡ Less) (sym new.0) (later k any))
            ((of_key-more rows run.key own j r).0 in');
        said = λ k none. said-more k none (decided cmp total same k run.key (cmp k run.key) refl);
      }
