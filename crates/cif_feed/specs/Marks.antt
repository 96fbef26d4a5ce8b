-- What the lines of a feed say beyond their records: their marks, and how many do what.
use Rattle.std.specs.Prelude.{Bool, List, None, Option, Some, [], false, filter, if◌then◌else◌, length, map, unwrap_or, ℕ, ◌+◌, ◌∷◌}
use Rattle.cif_columns.specs.{Comment.is_comment, Field.columns}
use Rattle.cif_records.specs.Kind.{kind_in}
use Rattle.cif_records.specs.declared.{record.Kind.Kind, record.Kind.TheVariants.Ta, record.Kind.TheVariants.Td}
use Rattle.cif_feed.specs.{Counts.counts_of, Transaction.transaction_in}
use Rattle.cif_feed.specs.FeedLine.{code_of, column, is_open, letter_of}
use Rattle.cif_feed.specs.RecordLines.{is_association, is_basic, is_header, is_note, is_of_tiploc, lines_of}
use Rattle.cif_feed.specs.declared.{holidays.HolidayCode.HolidayCode, holidays.HolidayCodes.HolidayCodes, mark.Marks.Marks}
use Rattle.cif_feed.specs.declared.{mark.Passed.Passed, mark.RecordMark.RecordMark, mark.TiplocMark.TiplocMark}
use Rattle.cif_feed.specs.declared.{mark.Transaction.Transaction, mark.UpdateCounts.UpdateCounts}
use Rattle.cif_feed.specs.declared.mark.Transaction.TheVariants.{New, Revised, Deleted}

-- ---- of one line, by its number and its columns

-- of a TI, a TA or a TD, whose transaction is by its kind
abbrev pub tiploc_transaction : Option Kind → Transaction
tiploc_transaction (Some Ta) = Revised
tiploc_transaction (Some Td) = Deleted
tiploc_transaction kind = New

abbrev pub tiploc_mark : Option Kind → ℕ × List ℕ → TiplocMark
tiploc_mark kind line = record {
  line = line.0;
  transaction = tiploc_transaction kind;
  tiploc = columns 3 9 line.1;
}

-- of an AA or a BS that puts its record, by its transaction, whether its end is open, and its code
abbrev pub put_mark : Transaction → Bool → Option HolidayCode → ℕ × List ℕ → RecordMark
put_mark transaction open_end code line = record {
  line = line.0;
  transaction = transaction;
  letter = letter_of line.1;
  open_end = open_end;
  code = code;
}

-- of one that deletes, of which neither the end nor the code is read
abbrev pub deleted_mark : ℕ × List ℕ → RecordMark
deleted_mark line = put_mark Deleted false None line

-- what is read unless it deletes
abbrev pub unless_deleted : {A : Type 0} → Option Transaction → A → A → A
unless_deleted (Some Deleted) none value = none
unless_deleted transaction none value = value

-- of any; a line without a transaction is refused
abbrev pub record_mark : Option Transaction → Bool → Option HolidayCode → ℕ × List ℕ → RecordMark
record_mark transaction open_end code =
    put_mark (unwrap_or transaction New) (unless_deleted transaction false open_end) (unless_deleted transaction None code)

abbrev pub association_mark : ℕ × List ℕ → RecordMark
association_mark line = record_mark (transaction_in (column 3 line.1)) (is_open 22 line.1) None line

abbrev pub schedule_mark : HolidayCodes → ℕ × List ℕ → RecordMark
schedule_mark allowed line = record_mark (transaction_in (column 3 line.1)) (is_open 16 line.1) (code_of allowed line.1) line

-- ---- of all lines

-- the number of the first header among contents of which the first has this number; 0, if there is none
abbrev pub header_from : ℕ → List (List ℕ) → ℕ
header_from number [] = 0
header_from number (content ∷ contents) = if is_header (kind_in content) then number else header_from (number + 1) contents

-- how many of the contents are comments, and notes
abbrev pub passed_of : List (List ℕ) → Passed
passed_of contents = record { comments = length (filter is_comment contents); notes = length (filter is_note contents) }

-- the number of the line of the header; the marks of locations, associations and schedules; how many lines do what; what was passed over
pub record MarkParts : Type 0 where
  pub header_line : ℕ
  pub tiplocs : List TiplocMark
  pub associations : List RecordMark
  pub schedules : List RecordMark
  pub counts : UpdateCounts
  pub passed : Passed

-- the parts of marks, whose vectors have capacities too
abbrev pub mark_parts : Marks → MarkParts
mark_parts m = record {
  header_line = m.header_line;
  tiplocs = m.tiplocs.items;
  associations = m.associations.items;
  schedules = m.schedules.items;
  counts = m.counts;
  passed = m.passed;
}

-- those of these contents, where these holiday codes may stand
abbrev pub marks_in : HolidayCodes → List (List ℕ) → MarkParts
marks_in allowed contents = record {
  header_line = header_from 1 contents;
  tiplocs = map (λ (line : ℕ × List ℕ). tiploc_mark (kind_in line.1) line) (lines_of is_of_tiploc contents);
  associations = map association_mark (lines_of is_association contents);
  schedules = map (schedule_mark allowed) (lines_of is_basic contents);
  counts = counts_of contents;
  passed = passed_of contents;
}
