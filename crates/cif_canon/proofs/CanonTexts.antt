-- The text that is written of an extract's runs is that of the canonical extract.
use Rattle.cif_canon.proofs.Names.{All, All-cons, All-head, All-nil, All-tail, AllZip, AreCanonicalRecords, AreDistinct, AssocBody}
use Rattle.cif_canon.proofs.Names.{AssocKey, BodyLines, ExtractParts, Form, HasRecord, IsRunOf, List, Permanent, Run, Terms, Tiploc, [], ap}
use Rattle.cif_canon.proofs.Names.{association_entries, association_run_text, association_text, canon_text, extract_text, flat_map}
use Rattle.cif_canon.proofs.Names.{flat_map-append, header_table, header_window, key_cmp, length, line_of_association, line_of_tiploc}
use Rattle.cif_canon.proofs.Names.{lines_text, map, nat_cmp, plain_line, plain_lines_of, record_at, refl, schedule_entries, schedule_lines}
use Rattle.cif_canon.proofs.Names.{schedule_run_text, schedule_text, slice_cmp, suc, sym, text_if, tiploc_text, trailer_table, ℕ, ◌++◌, ◌∙◌}
use Rattle.cif_canon.{proofs.Names.◌∷◌, proofs.Names.◌≡◌, proofs.RunTexts.record-of_run}
use Rattle.cif_canon.proofs.KeptExtract.{canonical_of, dated-associations, dated-schedules}
use Rattle.cif_canon.proofs.MadeExtract.{IsDated, associations_of, schedule_of, schedules_of}

-- ---- the runs of records

module _ {K B : Type 0} (entries : List (K × Terms B)) where
  pub have-records : (runs : List Run) (records : List (K × Permanent B)) → AllZip (IsRunOf entries) runs records → All IsDated records →
      All (HasRecord entries) runs
  have-records [] [] zip dated = All-nil (HasRecord entries)
  have-records (run ∷ runs) (e ∷ records) zip dated =
      All-cons (HasRecord entries) run runs
      (record { it = e; is = record-of_run entries run e zip.0; in_order = All-head IsDated e records dated })
      (have-records runs records zip.1 (All-tail IsDated e records dated))
  have-records _ _ zip _ = absurd zip

  pub texts-of_runs : {C : Type 0} (text : K × Permanent B → List C) (runs : List Run) (records : List (K × Permanent B)) →
      AllZip (IsRunOf entries) runs records → flat_map (λ run. text_if text (record_at entries run)) runs ≡ flat_map text records
  texts-of_runs text [] [] zip = refl
  texts-of_runs {C} text (run ∷ runs) (e ∷ records) zip =
      ap (λ o. text_if text o ++ flat_map (λ run. text_if text (record_at entries run)) runs) (record-of_run entries run e zip.0)
      ∙ ap (λ (l : List C). text e ++ l) (texts-of_runs text runs records zip.1)
  texts-of_runs _ _ _ zip = absurd zip

-- ---- the text of lines

text-append : (a b : List (List ℕ)) → lines_text (a ++ b) ≡ lines_text a ++ lines_text b
text-append a b = flat_map-append (λ (line : List ℕ). line ++ (10 ∷ [])) a b

tiplocs-text : (ts : List Tiploc) → flat_map tiploc_text ts ≡ lines_text (map line_of_tiploc ts)
tiplocs-text [] = refl
tiplocs-text (t ∷ ts) = ap (λ (l : List ℕ). tiploc_text t ++ l) (tiplocs-text ts)

associations-text : (es : List (AssocKey × Permanent AssocBody)) (h : All IsDated es) →
    flat_map association_text es ≡ lines_text (map line_of_association (associations_of es h))
associations-text [] h = refl
associations-text ((k, r) ∷ es) h = ap (λ (l : List ℕ). association_text (k, r) ++ l) (associations-text es (All-tail IsDated (k, r) es h))

schedules-text : (es : List (List ℕ × Permanent BodyLines)) (h : All IsDated es) →
    flat_map schedule_text es ≡ lines_text (flat_map plain_lines_of (schedules_of es h))
unfolding schedule_lines
schedules-text [] h = refl
schedules-text (e ∷ es) h =
    let head = All-head IsDated e es h in
    let tail = All-tail IsDated e es h in
    ap (λ (l : List ℕ). lines_text (plain_lines_of (schedule_of e head)) ++ l) (schedules-text es tail)
    ∙ sym (text-append (plain_lines_of (schedule_of e head)) (flat_map plain_lines_of (schedules_of es tail)))

-- the number of what is made
pub number-of_associations : (es : List (AssocKey × Permanent AssocBody)) (h : All IsDated es) → length es ≡ length (associations_of es h)
number-of_associations [] h = refl
number-of_associations (e ∷ es) h = ap suc (number-of_associations es (All-tail IsDated e es h))

pub number-of_schedules : (es : List (List ℕ × Permanent BodyLines)) (h : All IsDated es) → length es ≡ length (schedules_of es h)
number-of_schedules [] h = refl
number-of_schedules (e ∷ es) h = ap suc (number-of_schedules es (All-tail IsDated e es h))

-- ---- the whole text

module _ (form : Form) (x : ExtractParts) (tiplocs : List Tiploc) (distinct : AreDistinct x.tiplocs tiplocs) (associations : List Run)
    (a : AreCanonicalRecords key_cmp form (header_window x.header) (association_entries x.associations) associations) (schedules : List Run)
    (s : AreCanonicalRecords (slice_cmp nat_cmp) form (header_window x.header) (schedule_entries x.schedules) schedules) where
  pub written-text : canon_text x tiplocs associations schedules ≡
      extract_text (canonical_of form x tiplocs distinct associations a schedules s)
  unfolding canon_text
  written-text =
      let dated_a = dated-associations form x associations a in
      let dated_s = dated-schedules form x schedules s in
      let head : List ℕ = plain_line (header_table x.header) ++ (10 ∷ []) in
      let end : List ℕ = plain_line trailer_table ++ (10 ∷ []) in
      let first = map line_of_tiploc tiplocs in
      let second = map line_of_association (associations_of a.records dated_a) in
      let third = flat_map plain_lines_of (schedules_of s.records dated_s) in
      let last = plain_line trailer_table ∷ [] in
      let associations_are = texts-of_runs (association_entries x.associations) association_text associations a.records a.runs_of
      ∙ associations-text a.records dated_a in
      let schedules_are = texts-of_runs (schedule_entries x.schedules) schedule_text schedules s.records s.runs_of
      ∙ schedules-text s.records dated_s in
      ap (λ (l : List ℕ). head ++ l)
      (ap (λ (l : List ℕ). l ++ (flat_map (association_run_text (association_entries x.associations)) associations
      ++ (flat_map (schedule_run_text (schedule_entries x.schedules)) schedules ++ end))) (tiplocs-text tiplocs)
      ∙ ap (λ (l : List ℕ). lines_text first ++ l)
      (ap (λ (l : List ℕ). l ++ (flat_map (schedule_run_text (schedule_entries x.schedules)) schedules ++ end)) associations_are
      ∙ ap (λ (l : List ℕ). lines_text second ++ l)
      (ap (λ (l : List ℕ). l ++ end) schedules_are ∙ sym (text-append third last))
      ∙ sym (text-append second (third ++ last)))
      ∙ sym (text-append first (second ++ (third ++ last))))
