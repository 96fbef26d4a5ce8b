-- What is listed of records is the text of a view.
use Rattle.cif_canon.proofs.Names.{All, AreCanonicalRecords, AssocBody, AssocKey, BodyLines, DayTexts, Err, ExtractParts, Fault, Form}
use Rattle.cif_canon.proofs.Names.{HasRecord, IfWritten, IsDayListed, IsTrainListed, IsWithin, List, Ok, Ordering, Permanent, Result, Run}
use Rattle.cif_canon.proofs.Names.{Terms, TrainTexts, Window, Write, ap, applies_on, association_entries, canonical-dated, flat_map}
use Rattle.cif_canon.proofs.Names.{header_window, key_cmp, listed_of, listed_on, map, nat_cmp, nat_eq, nat_list_cmp_total, pointwise}
use Rattle.cif_canon.proofs.Names.{run_text, schedule_entries, slice_cmp, ℕ, ◌++◌, ◌∙◌, ◌≡◌}
use Rattle.cif_canon.proofs.{CanonTexts.have-records, CanonTexts.texts-of_runs, ChosenRecords.chosen-text}
use Rattle.cif_canon.proofs.RunningRecords.{applying, bodied, own, own-are, own-rising, running}

-- an answer that a text was written, or a prefix of it
pub written-so : {A : Type 0} (result : Result A Fault) (p : Type 0) → p → IfWritten result p
written-so (Ok done) p h = h
written-so (Err Write) p h = h
written-so (Err fault) p h = tt

-- the text of the runs of a slice
pub sliced : {X K B : Type 0} (text : K × Permanent B → List ℕ) (entry : X → K × Terms B) (xs ys : List X) (runs rs : List Run) →
    xs ≡ ys → runs ≡ rs → flat_map (run_text text (map entry xs)) runs ≡ flat_map (run_text text (map entry ys)) rs
sliced text entry xs ys runs rs same is =
    ap (λ zs. flat_map (run_text text (map entry zs)) runs) same ∙ ap (flat_map (run_text text (map entry ys))) is

-- the runs of a slice's canonical records have their records
pub have-lines : {X K B : Type 0} (cmp : K → K → Ordering) (form : Form) (window : Window) (entry : X → K × Terms B) (xs ys : List X)
    (runs own : List Run) → xs ≡ ys → runs ≡ own → AreCanonicalRecords cmp form window (map entry ys) own →
    All (HasRecord (map entry xs)) runs
have-lines cmp form window entry xs ys runs own same is a =
    rw (same, is)
    (have-records (map entry ys) own a.records a.runs_of (canonical-dated cmp form window a.records a.canonical))

-- what is listed of the associations' runs on a day, and of the trains'
abbrev pub associations-text : (AssocKey × AssocBody → List ℕ) → ExtractParts → ℕ → List Run → List ℕ
associations-text text x d = flat_map (run_text (listed_on text d) (association_entries x.associations))

abbrev pub trains-text : (List ℕ × BodyLines → List ℕ) → ExtractParts → ℕ → List Run → List ℕ
trains-text text x d = flat_map (run_text (listed_on text d) (schedule_entries x.schedules))

module _ (listed : DayTexts) (x : ExtractParts) (d : ℕ) (within : IsWithin (header_window x.header) d) (form : Form)
    (associations schedules : List Run)
    (a : AreCanonicalRecords key_cmp form (header_window x.header) (association_entries x.associations) associations)
    (s : AreCanonicalRecords (slice_cmp nat_cmp) form (header_window x.header) (schedule_entries x.schedules) schedules) where
  pub day-listed : IsDayListed listed x d
      (listed.heading ++ (associations-text listed.association x d associations ++ trains-text listed.train x d schedules))
  day-listed = record {
    within = within;
    clear = record { associations = a.clear; schedules = s.clear };
    associations = map bodied (applying d a.records);
    hold = running key_cmp form (header_window x.header) (association_entries x.associations) associations a d within;
    trains = map bodied (applying d s.records);
    run = running (slice_cmp nat_cmp) form (header_window x.header) (schedule_entries x.schedules) schedules s d within;
    text_is = ap (λ (l : List ℕ). listed.heading ++ l)
        (ap (λ (l : List ℕ). l ++ trains-text listed.train x d schedules)
        (texts-of_runs (association_entries x.associations) (listed_on listed.association d) associations a.records a.runs_of
        ∙ chosen-text (λ e. applies_on e.1 d) bodied listed.association a.records)
        ∙ ap (λ (l : List ℕ). flat_map listed.association (map bodied (applying d a.records)) ++ l)
        (texts-of_runs (schedule_entries x.schedules) (listed_on listed.train d) schedules s.records s.runs_of
        ∙ chosen-text (λ e. applies_on e.1 d) bodied listed.train s.records));
  }

module _ (listed : TrainTexts) (x : ExtractParts) (uid : List ℕ) (form : Form) (associations schedules : List Run)
    (a : AreCanonicalRecords key_cmp form (header_window x.header) (association_entries x.associations) associations)
    (s : AreCanonicalRecords (slice_cmp nat_cmp) form (header_window x.header) (schedule_entries x.schedules) schedules) where
  pub train-listed : IsTrainListed listed form x uid
      (listed.heading ++ flat_map (run_text (listed_of listed.schedule uid) (schedule_entries x.schedules)) schedules)
  train-listed = record {
    clear = record { associations = a.clear; schedules = s.clear };
    records = s.records;
    canonical = s.canonical;
    same_meaning = s.same_meaning;
    own = own (slice_cmp nat_cmp) nat_list_cmp_total s.records s.canonical.rising uid;
    rising = own-rising (slice_cmp nat_cmp) nat_list_cmp_total s.records s.canonical.rising uid;
    are = own-are (slice_cmp nat_cmp) nat_list_cmp_total s.records s.canonical.rising uid;
    text_is = ap (λ (l : List ℕ). listed.heading ++ l)
        (texts-of_runs (schedule_entries x.schedules) (listed_of listed.schedule uid) schedules s.records s.runs_of
        ∙ chosen-text (λ e. pointwise nat_eq e.0 uid) (λ (e : List ℕ × Permanent BodyLines). e.1) listed.schedule s.records);
  }
