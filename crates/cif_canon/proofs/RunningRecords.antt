-- Which canonical records apply on a day, and which are those of one key.
use Rattle.cif_canon.proofs.Names.{AllPairs, AllPairs-filter, AllPairs-map, AreCanonicalRecords, AreRunning, Bool, Contains}
use Rattle.cif_canon.proofs.Names.{Contains-from_map, Contains-get_or, Contains-map, Decides, Decides-and, Decides-like, Form, IsAmongDates}
use Rattle.cif_canon.proofs.Names.{IsTotalOrder, IsTrue, IsWithin, Less, List, Ordering, Permanent, Precedes, Run, RunsOn, Some, Terms}
use Rattle.cif_canon.proofs.Names.{Window, [], ap, applies_on, arith, bytes_decides, false, false≢true, filter, get_or, if◌then◌else◌}
use Rattle.cif_canon.proofs.Names.{le-leb, leb-true, listed_on, map, nat_eq, nat_le, not_less, of_key, pointwise, record_of, refl}
use Rattle.cif_canon.proofs.Names.{runs-applies, same_Some, same_from_decides, slice_index_or, subst, suc, sym, true, weekday_of, zero, ℕ}
use Rattle.cif_canon.proofs.Names.{⊎_elim, ◌&&◌, ◌<◌, ◌↔◌, ◌∙◌, ◌∷◌, ◌≡◌}
use Rattle.cif_weeks.specs.Applies.{Applies}
use Rattle.cif_canon.proofs.ChosenRecords.{chosen, chosen-from}

-- ---- the test of a day

runs : (days : List Bool) (w : ℕ) → slice_index_or days w false ≡ true → RunsOn days w
runs [] w e = absurd (false≢true e)
runs (b ∷ days) zero e = ap Some e
runs (b ∷ days) (suc w) e = runs days w e

runs-true : (days : List Bool) (w : ℕ) → RunsOn days w → slice_index_or days w false ≡ true
runs-true [] w e = absurd (cc)
runs-true (b ∷ days) zero e = same_Some b true e
runs-true (b ∷ days) (suc w) e = runs-true days w e

-- a record passes the test exactly if it applies
pub applies-decided : {B : Type 0} (r : Permanent B) (d : ℕ) → Decides (applies_on r d) (Applies r d)
applies-decided r d = Decides-like (applies_on r d)
    (λ h. record { begun = h.0; unfinished = h.1.0; on_weekday = h.1.1 })
    (λ a. (a.begun, (a.unfinished, a.on_weekday)))
    (Decides-and (nat_le r.first d) (nat_le d r.last && slice_index_or r.days (weekday_of d) false) (leb-true r.first d, le-leb r.first d)
    (Decides-and (nat_le d r.last) (slice_index_or r.days (weekday_of d) false) (leb-true d r.last, le-leb d r.last)
    (runs r.days (weekday_of d), runs-true r.days (weekday_of d))))

-- what is listed on a day of the record that an item is, by the answer whether its run applies
pub listed-by : {K B : Type 0} (text : K × B → List ℕ) (k : K) (run : Run) (b : B) (d : ℕ) (answer known : Bool) → answer ≡ known →
    IsTrue answer ↔ IsAmongDates run.first run.last run.days d → (item : K × Permanent B) → (k, record_of run b) ≡ item →
    (if known then text (k, b) else []) ≡ listed_on text d item
listed-by text k run b d answer known is h item same =
    ap (λ (t : Bool). if t then text (k, b) else [])
    (sym is ∙ same_from_decides answer (applies_on (record_of run b) d) h (applies-decided (record_of run b) d))
    ∙ ap (listed_on text d) same

-- ---- the records that apply, and those of one train

module _ {K B : Type 0} where
  -- the records that apply on day d, with their keys
  abbrev pub applying : ℕ → List (K × Permanent B) → List (K × Permanent B)
  applying d records = filter (λ (e : K × Permanent B). applies_on e.1 d) records

  applying-from : (d : ℕ) (records : List (K × Permanent B)) (e : K × Permanent B) → Contains (applying d records) e →
      of_key records e.0 e.1 × Applies e.1 d
  applying-from d records e h =
      let (listed, on) = chosen-from (λ (e : K × Permanent B). applies_on e.1 d) records e h in (listed, (applies-decided e.1 d).0 on)

  -- the body of a record, with its key
  abbrev pub bodied : K × Permanent B → K × B
  bodied e = (e.0, e.1.body)

  module _ (cmp : K → K → Ordering) (form : Form) (window : Window) (es : List (K × Terms B)) (runs : List Run)
      (a : AreCanonicalRecords cmp form window es runs) (d : ℕ) (within : IsWithin window d) where
    -- of two that apply, the one before has the lesser key, as of one key one applies at most
    rising : AllPairs (λ (e : K × Permanent B) (f : K × Permanent B). cmp e.0 f.0 ≡ Less) (applying d a.records)
    rising i j z less below =
        let e = get_or (applying d a.records) i z in
        let f = get_or (applying d a.records) j z in
        let (in_e, on_e) = applying-from d a.records e (Contains-get_or (applying d a.records) i z (omega arith)) in
        let (in_f, on_f) = applying-from d a.records f (Contains-get_or (applying d a.records) j z below) in
        ⊎_elim
        (λ before. before)
        (λ (one : (e.0 ≡ f.0) × (e.1.first < f.1.first)).
        let same : e.1 ≡ f.1 = (a.canonical.have_form f.0).single d e.1 f.1
        (subst (λ k. of_key a.records k e.1) one.0 in_e) in_f on_e on_f in
        let first : e.1.first ≡ f.1.first = ap (λ (r : Permanent B). r.first) same in
        let before = one.1 in
        absurd (omega (arith, first, before)))
        (AllPairs-filter (Precedes cmp) (λ (e : K × Permanent B). applies_on e.1 d) a.records a.canonical.rising i j z less below)

    pub running : AreRunning cmp es d (map bodied (applying d a.records))
    running = record {
      rising = AllPairs-map bodied (λ (x : K × B) (y : K × B). cmp x.0 y.0 ≡ Less) (applying d a.records) rising;
      runs = λ k b.
          let same = a.same_meaning.same k d (Some b) within.from within.upto in
          let has = runs-applies a.records k d b in (
            λ h.
                let (e, in', is) = Contains-from_map bodied (applying d a.records) (k, b) h in
                let (listed, on) = applying-from d a.records e in' in
                same.1 (has.1 (record {
                  it = e.1;
                  listed = subst (λ i. of_key a.records i e.1) (ap (λ (x : K × B). x.0) is) listed;
                  applies = on;
                  body = ap (λ (x : K × B). x.1) is;
                })),
            λ h.
                let it = has.0 (same.0 h) in
                subst (λ c. Contains (map bodied (applying d a.records)) (k, c)) it.body
                (Contains-map bodied (applying d a.records) (k, it.it)
                (chosen (λ (e : K × Permanent B). applies_on e.1 d) a.records (k, it.it) it.listed
                ((applies-decided it.it d).1 it.applies))),
          );
    }

module _ {B : Type 0} (cmp : List ℕ → List ℕ → Ordering) (total : IsTotalOrder cmp) (records : List (List ℕ × Permanent B))
    (precede : AllPairs (Precedes cmp) records) (uid : List ℕ) where
  abbrev mine : List (List ℕ × Permanent B)
  mine = filter (λ (e : List ℕ × Permanent B). pointwise nat_eq e.0 uid) records

  -- the records of one train
  abbrev pub own : List (Permanent B)
  own = map (λ (e : List ℕ × Permanent B). e.1) mine

  from-mine : (e : List ℕ × Permanent B) → Contains mine e → Contains records e × (e.0 ≡ uid)
  from-mine e h =
      let (listed, passes) = chosen-from (λ (e : List ℕ × Permanent B). pointwise nat_eq e.0 uid) records e h in
      (listed, (bytes_decides e.0 uid).0 passes)

  -- they rise by first day
  pub own-rising : AllPairs (λ (r : Permanent B) (s : Permanent B). r.first < s.first) own
  own-rising = AllPairs-map (λ (e : List ℕ × Permanent B). e.1) (λ (r : Permanent B) (s : Permanent B). r.first < s.first) mine (λ i
      j z less below.
      let e = get_or mine i z in
      let f = get_or mine j z in
      let is_e = (from-mine e (Contains-get_or mine i z (omega arith))).1 in
      let is_f = (from-mine f (Contains-get_or mine j z below)).1 in
      ⊎_elim
      (λ (before : cmp e.0 f.0 ≡ Less). absurd (not_less cmp total e.0 f.0 (is_e ∙ sym is_f) before))
      (λ (one : (e.0 ≡ f.0) × (e.1.first < f.1.first)). one.1)
      (AllPairs-filter (Precedes cmp) (λ (e : List ℕ × Permanent B). pointwise nat_eq e.0 uid) records precede i j z less below))

  pub own-are : (r : Permanent B) → Contains own r ↔ Contains records (uid, r)
  own-are r = (
    λ h.
        let (e, in', is) = Contains-from_map (λ (e : List ℕ × Permanent B). e.1) mine r h in
        let (listed, key) = from-mine e in' in
        subst (λ s. Contains records (uid, s)) is (subst (λ k. Contains records (k, e.1)) key listed),
    λ h.
        Contains-map (λ (e : List ℕ × Permanent B). e.1) mine (uid, r)
        (chosen (λ (e : List ℕ × Permanent B). pointwise nat_eq e.0 uid) records (uid, r) h ((bytes_decides uid uid).1 refl)),
  )
