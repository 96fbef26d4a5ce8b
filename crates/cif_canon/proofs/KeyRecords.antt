-- The runs of a key's calendar are those of the key's canonical records.
use Rattle.cif_canon.proofs.Names.{AllZip, AreCanonicalRuns, ArePositionsOf, AreRunsOf, AreRunsOfKey, AreRunsOfMembers, BodyRuns, C}
use Rattle.cif_canon.proofs.Names.{CalendarParts, Clash, Contains, Form, HasBody, HasBody-more, IsCalendar, IsChosen, IsFault, IsKeyFault}
use Rattle.cif_canon.proofs.Names.{IsMembersRun, IsNone, IsRunOf, IsWithin, List, Permanent, Permanents, Run, SameRecords, Some, Terms}
use Rattle.cif_canon.proofs.Names.{Window, ap, body_on, extract_fault, get_or, has-key, inl, inr, key-clear, key-fault, key-runs}
use Rattle.cif_canon.proofs.Names.{key-source, keyed, length, map, of_key, of_key-more, one-key, option_and_then, positions-records, refl}
use Rattle.cif_canon.proofs.Names.{subst, sym, terms_at-keyed, tight, window_from, window_of, with_key, zip-back, zip-map, zip-with, ℕ}
use Rattle.cif_canon.proofs.Names.{⊎_elim, ◌++◌, ◌<◌, ◌↔◌, ◌∙◌, ◌≡◌}
use Rattle.cif_calendar.{proofs.Sets.IsClearFrom-same, proofs.Sets.Runs-same, specs.declared.key_calendar.CalendarFault.TheVariants.Memory}
use Rattle.cif_calendar.specs.declared.{key_calendar.CalendarFault.CalendarFault, key_calendar.CalendarFault.TheVariants.Ambiguous}
use Rattle.cif_weeks.specs.Runs.{IsRunOf as IsCalendarRun}

-- sets with the same records say the same
same-bodies : {B : Type 0} (us vs : Permanents B) → ((r : Permanent B) → us r ↔ vs r) → (d : ℕ) (b : B) → HasBody us d b ↔ HasBody vs d b
same-bodies us vs same d b = (λ h. HasBody-more us vs (λ r. (same r).0) d b h, λ h. HasBody-more vs us (λ r. (same r).1) d b h)

module _ {K B : Type 0} (records : List (K × Permanent B)) (k : K) (own : List (Permanent B)) where
  -- the key's own records say what is said of it, if it had none
  pub bodies-own : ((r : Permanent B) → of_key records k r → ⊥) → (d : ℕ) (b : B) →
      HasBody (of_key (records ++ with_key k own) k) d b ↔ HasBody (Contains own) d b
  bodies-own none d b =
      same-bodies (of_key (records ++ with_key k own) k) (Contains own)
      (λ r. let more = of_key-more records k own k r in (
        λ h. ⊎_elim (λ old. absurd (none r old)) (λ new. new.1) (more.0 h),
        λ new. more.1 (inr (refl, new)),
      )) d b

  -- and of another key is said what was
  pub bodies-other : (j : K) → (j ≡ k → ⊥) → (d : ℕ) (b : B) →
      HasBody (of_key (records ++ with_key k own) j) d b ↔ HasBody (of_key records j) d b
  bodies-other j apart d b =
      same-bodies (of_key (records ++ with_key k own) j) (of_key records j)
      (λ r. let more = of_key-more records k own j r in (
        λ h. ⊎_elim (λ old. old) (λ new. absurd (apart new.0)) (more.0 h),
        λ old. more.1 (inl old),
      )) d b

-- runs of records are those of the same records where more is said of the same
pub runs-as : {B : Type 0} (form : Form) (window after : Window) → window ≡ after → (IsOf IsAs : Run → Permanent B → Type 0) →
    ((run : Run) (r : Permanent B) → IsWithin window r.first → IsOf run r → IsAs run r) → (IsSaid IsTold : ℕ → B → Type 0) →
    ((n : ℕ) (b : B) → IsWithin window n → IsSaid n b ↔ IsTold n b) → (runs : List Run) →
    AreRunsOf form window IsOf IsSaid runs → AreRunsOf form after IsAs IsTold runs
runs-as {B} form window after is IsOf IsAs ties IsSaid IsTold same runs a = subst (λ w. AreRunsOf form w IsAs IsTold runs) is (record {
  records = a.records;
  runs_of = zip-back (λ r run. IsAs run r) a.records runs (zip-with (λ r run. IsOf run r) (λ r run. IsAs run r) a.records runs
      (λ r run in' h. ties run r (tight r window form (a.have_form.aligned r in')).first_within h)
      (zip-back IsOf runs a.records a.runs_of));
  rising = a.rising;
  have_form = a.have_form;
  say = λ n b within.
      let say = a.say n b within in
      let words = same n b within in
      (λ known. say.0 (words.1 known), λ has. words.0 (say.1 has));
})

-- each record with the key
pub zip-keyed : {K B : Type 0} (es : List (K × Terms B)) (k : K) (runs : List Run) (records : List (Permanent B)) →
    AllZip (λ run r. IsRunOf es run (k, r)) runs records → AllZip (IsRunOf es) runs (with_key k records)
zip-keyed {K} {B} es k runs records z =
    zip-back (λ (e : K × Permanent B) run. IsRunOf es run e) (with_key k records) runs
    (zip-map (λ (r : Permanent B). (k, r)) (λ e run. IsRunOf es run e) records runs
    (zip-back (λ run r. IsRunOf es run (k, r)) runs records z))

module _ {E K B : Type 0} (key : E → K) (terms : E → Terms B) (es : List E) (k : K) (members : List ℕ)
    (p : ArePositionsOf (keyed key terms es) k members) where
  -- an entry at its positions has the key
  pub key-is : (i : ℕ) → Contains members i → (e : E) → i < length es → e ≡ get_or es i e → key e ≡ k
  key-is i member e below at =
      let found = p.found i member in
      one-key (keyed key terms es) i (key e) k (has-key key terms es i e below at) (record { terms = found.0; at = found.1 })

  -- a fault of the key's calendar is one of the key
  pub key_fault : (name : K → ℕ → Clash) (i : ℕ) → Contains members i → (e : E) → i < length es → e ≡ get_or es i e →
      (first last : ℕ) (fault : CalendarFault) → IsFault (IsChosen (map terms es) members) first last fault →
      IsKeyFault name (window_from first last) (keyed key terms es) k (extract_fault (name (key e)) fault)
  key_fault name i member e below at first last Memory h = tt
  key_fault name i member e below at first last (Ambiguous day) h =
      (day, ap (λ j. name j day) (key-is i member e below at), key-fault key terms es k members p first last (Ambiguous day) h)

  member-run : (run : Run) (r : Permanent B) → IsMembersRun (map terms es) members run r → IsRunOf (keyed key terms es) run (k, r)
  member-run run r is =
      let (t, at) = p.found run.source is.member in record {
        dates = is.dates;
        terms = t;
        at = at;
        body = sym (ap (λ o. option_and_then (λ (u : Terms B). u.body) o) (terms_at-keyed key terms es run.source k t at)) ∙ is.body;
      }

  -- the runs of the key's members are those of the key
  pub members-records : (form : Form) (window : Window) (runs : List Run) → AreRunsOfMembers form (map terms es) members window runs →
      AreRunsOfKey form window (keyed key terms es) k runs
  members-records form window runs a =
      let chosen = positions-records key terms es k members p in
      let back : SameRecords (of_key (keyed key terms es) k) (IsChosen (map terms es) members) =
      record { same = λ r. ((chosen.same r).1, (chosen.same r).0) } in
      record {
        clear = IsClearFrom-same _ _ chosen window.first window.last a.clear;
        own = runs-as form window window refl (IsMembersRun (map terms es) members) (λ run r. IsRunOf (keyed key terms es) run (k, r))
            (λ run r within. member-run run r) (λ n b. BodyRuns (IsChosen (map terms es) members) n b)
            (λ n b. BodyRuns (of_key (keyed key terms es) k) n b)
            (λ n b within. (Runs-same _ _ chosen n (Some b), Runs-same _ _ back n (Some b))) runs
            (record { records = a.records; runs_of = a.runs_of; rising = a.rising; have_form = a.have_form; say = a.say });
      }

  module _ (first last : ℕ) (c : CalendarParts) (cal : IsCalendar (map terms es) members first last c) where
    pub window-is : window_of c ≡ window_from first last
    window-is = ap (λ n. window_from n c.last) cal.first_is ∙ ap (λ n. window_from first n) cal.last_is

    -- a run's source is the position of an entry of the key
    pub key-run : (run : Run) (r : Permanent B) → IsWithin (window_of c) r.first → IsCalendarRun (map terms es) c run r →
        IsRunOf (keyed key terms es) run (k, r)
    key-run run r within is =
        let here : IsWithin (window_from first last) run.first =
        subst (λ (s : Permanent B). IsWithin (window_from first last) s.first) is.dates
        (subst (λ w. IsWithin w r.first) window-is within) in
        let (t, at, wins, some) =
        key-source key terms es k members p first last c cal run.first run.source here.from here.upto is.source in
        record {
          dates = is.dates;
          terms = t;
          at = at;
          body = sym (ap (λ o. option_and_then (λ (u : Terms B). u.body) o) (terms_at-keyed key terms es run.source k t at)) ∙ is.body;
        }

    pub key-records : ((e : E) → IsNone (terms e).body ↔ ((terms e).letter ≡ C)) → (form : Form) (runs : List Run) →
        AreCanonicalRuns form (map terms es) c runs → AreRunsOfKey form (window_from first last) (keyed key terms es) k runs
    key-records cancelled form runs a = record {
      clear = key-clear key terms es k members p first last c cal;
      own = runs-as form (window_of c) (window_from first last) window-is (IsCalendarRun (map terms es) c)
          (λ run r. IsRunOf (keyed key terms es) run (k, r)) key-run (λ n b. body_on (map terms es) c n ≡ Some b)
          (λ n b. BodyRuns (of_key (keyed key terms es) k) n b)
          (λ n b within.
          let here = subst (λ w. IsWithin w n) window-is within in
          key-runs key terms es k members p first last c cal cancelled n (Some b) here.from here.upto) runs
          (record {
            records = a.records;
            runs_of = a.runs_of;
            rising = a.meets.rising;
            have_form = a.meets.have_form;
            say = a.meets.say.says;
          });
    }
