-- The lines of a canonical form's runs are those of the canonical extract, and what is listed of them.
use Rattle.cif_canon.proofs.Names.{All, All-head, All-tail, AreCanonicalRecords, AreDistinct, AssocBody, AssocKey, BodyLines, ExtractParts}
use Rattle.cif_canon.proofs.Names.{Form, HasRecord, List, None, Option, Permanent, Run, ScheduleLines, Some, Terms, Tiploc, [], ap}
use Rattle.cif_canon.proofs.Names.{append-nil, ap₂, arith, association_entries, association_plain, canon_lines, enumerate_from, flat_map}
use Rattle.cif_canon.proofs.Names.{flat_map-append, get_or, get_or-enumerate_from, header_table, header_window, key_cmp, length}
use Rattle.cif_canon.proofs.Names.{line_of_association, line_of_tiploc, lines_of, lines_of_schedule, map, nat_cmp, numbered_text, of_run}
use Rattle.cif_canon.proofs.Names.{plain_line, record_at, refl, run_text, schedule_entries, schedule_plain, slice_cmp, sym, text_if, ℕ}
use Rattle.cif_canon.proofs.Names.{◌++◌, ◌+◌, ◌<◌, ◌∙◌, ◌∷◌, ◌≡◌}
use Rattle.std.proofs.lemmas.List.Concat.{flat_map_single}
use Rattle.cif_canon.proofs.{CanonTexts.texts-of_runs, KeptExtract.canonical_of, KeptExtract.dated-associations}
use Rattle.cif_canon.proofs.{KeptExtract.dated-schedules, MadeExtract.IsDated, MadeExtract.associations_of, MadeExtract.schedules_of}

-- the lines of associations, and of schedules
lines-of_associations : (es : List (AssocKey × Permanent AssocBody)) (h : All IsDated es) →
    map association_plain es ≡ map line_of_association (associations_of es h)
lines-of_associations [] h = refl
lines-of_associations ((k, r) ∷ es) h =
    ap (λ (ls : List (List ℕ)). association_plain (k, r) ∷ ls) (lines-of_associations es (All-tail IsDated (k, r) es h))

lines-of_schedules : (es : List (List ℕ × Permanent BodyLines)) (h : All IsDated es) →
    map schedule_plain es ≡ map lines_of_schedule (schedules_of es h)
lines-of_schedules [] h = refl
lines-of_schedules ((uid, r) ∷ es) h =
    ap (λ (ls : List ScheduleLines). schedule_plain (uid, r) ∷ ls) (lines-of_schedules es (All-tail IsDated (uid, r) es h))

module _ (form : Form) (x : ExtractParts) (tiplocs : List Tiploc) (distinct : AreDistinct x.tiplocs tiplocs) (associations : List Run)
    (a : AreCanonicalRecords key_cmp form (header_window x.header) (association_entries x.associations) associations) (schedules : List Run)
    (s : AreCanonicalRecords (slice_cmp nat_cmp) form (header_window x.header) (schedule_entries x.schedules) schedules) where
  pub written-lines : canon_lines x tiplocs associations schedules ≡
      lines_of (canonical_of form x tiplocs distinct associations a schedules s)
  unfolding canon_lines
  written-lines =
      let dated_a = dated-associations form x associations a in
      let dated_s = dated-schedules form x schedules s in
      let first = flat_map (of_run association_plain (association_entries x.associations)) associations in
      let second = flat_map (of_run schedule_plain (schedule_entries x.schedules)) schedules in
      let associations_are : first ≡ map line_of_association (associations_of a.records dated_a) =
      texts-of_runs (association_entries x.associations) (λ e. association_plain e ∷ []) associations a.records a.runs_of
      ∙ flat_map_single association_plain a.records
      ∙ lines-of_associations a.records dated_a in
      let schedules_are : second ≡ map lines_of_schedule (schedules_of s.records dated_s) =
      texts-of_runs (schedule_entries x.schedules) (λ e. schedule_plain e ∷ []) schedules s.records s.runs_of
      ∙ flat_map_single schedule_plain s.records
      ∙ lines-of_schedules s.records dated_s in
      ap₂ (λ (ls : List (List ℕ)) (ss : List ScheduleLines). record {
        header = plain_line (header_table x.header);
        tiplocs = map line_of_tiploc tiplocs;
        associations = ls;
        schedules = ss;
      }) associations_are schedules_are

-- what is listed of runs, by what their records have
module _ {K B C : Type 0} (text : C → List ℕ) (part : K × Permanent B → C) (entries : List (K × Terms B)) where
  part-text : (o : Option (K × Permanent B)) → text_if (λ e. text (part e)) o ≡ flat_map text (text_if (λ e. part e ∷ []) o)
  part-text None = refl
  part-text (Some e) = sym (append-nil (text (part e)))

  pub parts-text : (runs : List Run) →
      flat_map (run_text (λ e. text (part e)) entries) runs ≡ flat_map text (flat_map (of_run part entries) runs)
  parts-text [] = refl
  parts-text (run ∷ runs) =
      ap (λ (l : List ℕ). l ++ flat_map (run_text (λ e. text (part e)) entries) runs) (part-text (record_at entries run))
      ∙ ap (λ (l : List ℕ). flat_map text (of_run part entries run) ++ l) (parts-text runs)
      ∙ sym (flat_map-append text (of_run part entries run) (flat_map (of_run part entries) runs))

-- what is listed of the schedules of runs, with their numbers
module _ (text : ℕ → ScheduleLines → List ℕ) (entries : List (List ℕ × Terms BodyLines)) where
  abbrev listed : ℕ × ScheduleLines → List ℕ
  listed s = text s.0 s.1

  pub numbered-texts : (n : ℕ) (runs : List Run) → All (HasRecord entries) runs →
      flat_map (numbered_text text entries) (enumerate_from n runs)
      ≡ flat_map listed (enumerate_from n (flat_map (of_run schedule_plain entries) runs))
  numbered-texts n [] have = refl
  numbered-texts n (run ∷ runs) have =
      let here = All-head (HasRecord entries) run runs have in
      let rest = flat_map (of_run schedule_plain entries) runs in
      ap (λ o. text_if (λ e. text n (schedule_plain e)) o ++ flat_map (numbered_text text entries) (enumerate_from (n + 1) runs)) here.is
      ∙ ap (λ (l : List ℕ). text n (schedule_plain here.it) ++ l)
      (numbered-texts (n + 1) runs (All-tail (HasRecord entries) run runs have))
      ∙ ap (λ o. flat_map listed (enumerate_from n (text_if (λ e. schedule_plain e ∷ []) o ++ rest))) (sym here.is)

-- a run with its number, among all
pub at-number : {A : Type 0} (xs : List A) (n : ℕ) (x : A) → n < length xs → x ≡ get_or xs n x →
    (n + 1, x) ≡ get_or (enumerate_from 1 xs) n (n + 1, x)
at-number {A} xs n x within is =
    let e : n + 1 ≡ 1 + n = omega arith in
    ap (λ m. (m, x)) e ∙ ap (λ y. (1 + n, y)) is ∙ sym (get_or-enumerate_from 1 xs n (n + 1, x) within)
