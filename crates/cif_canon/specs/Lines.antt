-- The plain lines of an extract, by the kinds of its records.
use Rattle.std.specs.Prelude.{ℕ, List, Some, map}
use Rattle.cif_columns.specs.{Field.plain_line, declared.stp.Stp.TheVariants.P}
use Rattle.cif_extract.specs.{Body.BodyLines, Body.detail_of, ExtractParts.ExtractParts, Texts.further_lines, Texts.rows_on}
pub use Rattle.cif_extract.specs.Texts.{line_of_association, line_of_tiploc}
use Rattle.cif_extract.specs.declared.extract.Schedule.{Schedule}
use Rattle.cif_records.specs.{Association.association_rows, Basic.basic_rows, Header.header_table}
use Rattle.cif_records.specs.declared.{association.AssocBody.AssocBody, association.AssocKey.AssocKey}
use Rattle.cif_weeks.specs.Permanent.{Permanent}

-- the lines of a schedule: its BS, and those that follow it, which are its BX if there is one and its journey
pub record ScheduleLines : Type 0 where
  pub basic : List ℕ
  pub further : List (List ℕ)

-- the lines of an extract but for its trailer
pub record ExtractLines : Type 0 where
  pub header : List ℕ
  pub tiplocs : List (List ℕ)
  pub associations : List (List ℕ)
  pub schedules : List ScheduleLines

-- the plain lines of a schedule
abbrev pub lines_of_schedule : Schedule → ScheduleLines
lines_of_schedule s = record {
  basic = plain_line (rows_on s.first s.last s);
  further = further_lines s.body;
}

-- the plain line of a permanent association, and the lines of a permanent schedule
abbrev pub association_plain : AssocKey × Permanent AssocBody → List ℕ
association_plain e = plain_line (association_rows e.0 e.1.first e.1.last e.1.days P (Some e.1.body))

abbrev pub schedule_plain : List ℕ × Permanent BodyLines → ScheduleLines
schedule_plain e = record {
  basic = plain_line (basic_rows e.0 e.1.first e.1.last e.1.days P (Some (detail_of e.1.body)));
  further = further_lines (Some e.1.body);
}

-- the plain lines of an extract
abbrev pub lines_of : ExtractParts → ExtractLines
lines_of x = record {
  header = plain_line (header_table x.header);
  tiplocs = map line_of_tiploc x.tiplocs;
  associations = map line_of_association x.associations;
  schedules = map lines_of_schedule x.schedules;
}
