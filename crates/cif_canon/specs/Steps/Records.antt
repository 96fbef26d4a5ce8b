-- The canonical records of all keys, as runs. No public clause cites them.
use Rattle.std.specs.Prelude.{◌≡◌, ℕ, ◌<◌, List, Some, ⊤, ◌↔◌, AllPairs, Contains, slice_get}
use Rattle.std.specs.{List.AllZip, declared.cmp.Ordering.Ordering}
use Rattle.cif_calendar.specs.{Clash.IsClearFrom, Clash.IsFirstClash, Keys.AreClear, Keys.IsFirstClashOf, Keys.of_key}
use Rattle.cif_calendar.specs.{Meaning.EntriesSayTheSame, Runs.BodyRuns, Terms.Terms, declared.key_calendar.CalendarFault.CalendarFault}
use Rattle.cif_calendar.specs.declared.key_calendar.CalendarFault.TheVariants as calendar
use Rattle.cif_extract.specs.declared.{fault.Clash.Clash, fault.Fault.Fault}
use Rattle.cif_extract.specs.declared.fault.Fault.TheVariants as fault
use Rattle.cif_weeks.specs.{Canonical.AreCanonical, HaveForm.HaveForm, Runs.record_of, WhatRuns.HasBody, Window.IsWithin, Window.Window}
use Rattle.cif_weeks.specs.Permanent.{Permanent, Permanents, permanent_entries}
use Rattle.cif_weeks.specs.declared.{form.Form.Form, form.Run.Run}

-- The run has the dates and the mask of the record of e, and its source is the position of an entry with e's key and the record's
-- body.
pub record IsRunOf {K B : Type 0} (entries : List (K × Terms B)) (run : Run) (e : K × Permanent B) : Type 0 where
  pub dates : e.1 ≡ record_of run e.1.body
  pub terms : Terms B
  pub at : slice_get entries run.source ≡ Some (e.0, terms)
  pub body : terms.body ≡ Some e.1.body

-- The entries are clear. The runs are, one by one, those of canonical records that say the same as the entries.
pub record AreCanonicalRecords {K B : Type 0} (cmp : K → K → Ordering) (form : Form) (window : Window) (entries : List (K × Terms B))
    (runs : List Run) : Type 0 where
  pub clear : AreClear entries window.first window.last
  pub records : List (K × Permanent B)
  pub canonical : AreCanonical cmp form window records
  pub same_meaning : EntriesSayTheSame entries (permanent_entries records) window.first window.last
  pub runs_of : AllZip (IsRunOf entries) runs records

-- of key k the entries are clear, and the records say what runs
pub record AreSaid {K B : Type 0} (window : Window) (entries : List (K × Terms B)) (k : K) (records : Permanents B) : Type 0 where
  pub clear : IsClearFrom (of_key entries k) window.first window.last
  pub say : (n : ℕ) (b : B) → IsWithin window n → BodyRuns (of_key entries k) n b ↔ HasBody records n b

-- The runs are, one by one, those of records of the form, rising by first day, that say on each day of the window what is said of it.
-- `IsOf` says what a run has of its record.
pub record AreRunsOf {B : Type 0} (form : Form) (window : Window) (IsOf : Run → Permanent B → Type 0) (IsSaid : ℕ → B → Type 0)
    (runs : List Run) : Type 0 where
  pub records : List (Permanent B)
  pub runs_of : AllZip IsOf runs records
  pub rising : AllPairs (λ r s. r.first < s.first) records
  pub have_form : HaveForm form window (Contains records)
  pub say : (n : ℕ) (b : B) → IsWithin window n → IsSaid n b ↔ HasBody (Contains records) n b

-- key k is clear, and the runs are those of its canonical records
pub record AreRunsOfKey {K B : Type 0} (form : Form) (window : Window) (entries : List (K × Terms B)) (k : K) (runs : List Run)
    : Type 0 where
  pub clear : IsClearFrom (of_key entries k) window.first window.last
  pub own : AreRunsOf form window (λ run r. IsRunOf entries run (k, r)) (λ n b. BodyRuns (of_key entries k) n b) runs

-- a fault of the calendar of a key as one of the extract, by the name of the key's clash on a day
abbrev pub extract_fault : (ℕ → Clash) → CalendarFault → Fault
extract_fault name (calendar.Ambiguous day) = fault.Ambiguous (name day)
extract_fault name calendar.Memory = fault.Memory

-- what a fault says of key k
abbrev pub IsKeyFault : {K B : Type 0} → (K → ℕ → Clash) → Window → List (K × Terms B) → K → Fault → Type 0
IsKeyFault name window entries k (fault.Ambiguous clash) =
    (day : ℕ) × (clash ≡ name k day) × IsFirstClash (of_key entries k) window.first window.last day
IsKeyFault name window entries k fault.Memory = ⊤
IsKeyFault name window entries k _ = ⊥

-- the clash is the first one of the entries, by the name of its key and its day
pub record IsFirstNamed {K B : Type 0} (cmp : K → K → Ordering) (name : K → ℕ → Clash) (entries : List (K × Terms B)) (window : Window)
    (clash : Clash) : Type 0 where
  pub key : K
  pub day : ℕ
  pub is : clash ≡ name key day
  pub first : IsFirstClashOf cmp entries window.first window.last key day

-- what a fault says of the entries
abbrev pub IsRecordsFault : {K B : Type 0} → (K → K → Ordering) → (K → ℕ → Clash) → List (K × Terms B) → Window → Fault → Type 0
IsRecordsFault cmp name entries window (fault.Ambiguous clash) = IsFirstNamed cmp name entries window clash
IsRecordsFault cmp name entries window fault.Memory = ⊤
IsRecordsFault cmp name entries window _ = ⊥
