-- The text of runs, as it is written from an extract. No public clause cites it.
use Rattle.std.specs.Prelude.{◌≡◌, ℕ, ◌≤◌, List, [], ◌∷◌, ◌++◌, Option, None, Some, map, slice_get}
use Rattle.std.specs.{List.flat_map, Option.option_and_then, Option.option_map}
use Rattle.cif_calendar.specs.{Entries.association_entries, Entries.schedule_entries, Terms.Terms}
use Rattle.cif_columns.specs.{Contents.lines_text, Field.plain_line, declared.stp.Stp.TheVariants.P}
use Rattle.cif_extract.specs.{Body.BodyLines, ExtractParts.ExtractParts, Texts.schedule_lines, declared.extract.Schedule.Schedule}
use Rattle.cif_records.specs.{Association.association_rows, Header.header_table, Tiploc.tiploc_table, Trailer.trailer_table}
use Rattle.cif_records.specs.declared.{association.AssocBody.AssocBody, association.AssocKey.AssocKey, tiploc.Tiploc.Tiploc}
use Rattle.cif_weeks.specs.{Permanent.Permanent, Runs.record_of, declared.form.Run.Run}
use Rattle.cif_canon.specs.Lines.{ExtractLines, ScheduleLines, association_plain, line_of_tiploc, schedule_plain}

-- the record of a run, with the key and the body of the entry at its source
abbrev pub record_at : {K B : Type 0} → List (K × Terms B) → Run → Option (K × Permanent B)
record_at {K} {B} entries run =
    option_and_then (λ (e : K × Terms B). option_map (λ b. (e.0, record_of run b)) e.1.body) (slice_get entries run.source)

-- a run that can be written: it has a record, which doesn't end before it begins
pub record HasRecord {K B : Type 0} (entries : List (K × Terms B)) (run : Run) : Type 0 where
  pub it : K × Permanent B
  pub is : record_at entries run ≡ Some it
  pub in_order : it.1.first ≤ it.1.last

-- the text of what is there, or what else a list has of it
abbrev pub text_if : {A C : Type 0} → (A → List C) → Option A → List C
text_if text None = []
text_if text (Some a) = text a

-- the text of a run: that of its record
abbrev pub run_text : {K B : Type 0} → (K × Permanent B → List ℕ) → List (K × Terms B) → Run → List ℕ
run_text text entries run = text_if text (record_at entries run)

-- what the record of a run has, in a list of its own
abbrev pub of_run : {K B C : Type 0} → (K × Permanent B → C) → List (K × Terms B) → Run → List C
of_run part entries run = text_if (λ e. part e ∷ []) (record_at entries run)

-- what is listed of the schedule of a run, with a number
abbrev pub numbered_text : (ℕ → ScheduleLines → List ℕ) → List (List ℕ × Terms BodyLines) → ℕ × Run → List ℕ
numbered_text text entries n = run_text (λ e. text n.0 (schedule_plain e)) entries n.1

-- the lines of an extract's locations and runs
unfoldable pub canon_lines : ExtractParts → List Tiploc → List Run → List Run → ExtractLines
canon_lines x tiplocs associations schedules = record {
  header = plain_line (header_table x.header);
  tiplocs = map line_of_tiploc tiplocs;
  associations = flat_map (of_run association_plain (association_entries x.associations)) associations;
  schedules = flat_map (of_run schedule_plain (schedule_entries x.schedules)) schedules;
}

-- the lines of a location, a permanent association, a permanent schedule
abbrev pub tiploc_text : Tiploc → List ℕ
tiploc_text t = plain_line (tiploc_table t) ++ (10 ∷ [])

abbrev pub association_text : AssocKey × Permanent AssocBody → List ℕ
association_text e = plain_line (association_rows e.0 e.1.first e.1.last e.1.days P (Some e.1.body)) ++ (10 ∷ [])

abbrev pub schedule_text : List ℕ × Permanent BodyLines → List ℕ
schedule_text e = lines_text (schedule_lines e.0 e.1.first e.1.last e.1.days P (Some e.1.body))

-- the body of the schedule at a position
abbrev pub body_at : List Schedule → ℕ → Option BodyLines
body_at schedules n = option_and_then (λ (s : Schedule). s.body) (slice_get schedules n)

-- the text of the runs of associations, of schedules
abbrev pub association_run_text : List (AssocKey × Terms AssocBody) → Run → List ℕ
association_run_text = run_text association_text

abbrev pub schedule_run_text : List (List ℕ × Terms BodyLines) → Run → List ℕ
schedule_run_text = run_text schedule_text

-- the text that is written of an extract, by its locations and its runs
unfoldable pub canon_text : ExtractParts → List Tiploc → List Run → List Run → List ℕ
canon_text x tiplocs associations schedules =
    (plain_line (header_table x.header) ++ (10 ∷ [])) ++ (flat_map tiploc_text tiplocs
    ++ (flat_map (association_run_text (association_entries x.associations)) associations
    ++ (flat_map (schedule_run_text (schedule_entries x.schedules)) schedules ++ (plain_line trailer_table ++ (10 ∷ [])))))
