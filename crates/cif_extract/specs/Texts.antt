-- The plain lines of an extract and its text.
use Rattle.std.specs.Prelude.{ℕ, All, Bool, List, [], ◌∷◌, ◌++◌, Option, None, Some, IfSome, drop, map}
use Rattle.std.specs.{List.flat_map, Option.option_map}
use Rattle.cif_columns.specs.{Contents.lines_text, Field.AllFit, Field.Row, Field.plain_line, declared.stp.Stp.Stp}
use Rattle.cif_extract.specs.{Body.BodyLines, Body.IsBody, Body.detail_of, ExtractParts.ExtractParts, declared.extract.Schedule.Schedule}
use Rattle.cif_records.specs.{Association.association_table, Basic.basic_rows, Header.header_table, Tiploc.tiploc_table}
use Rattle.cif_records.specs.{Trailer.trailer_table, declared.association.Association.Association, declared.tiploc.Tiploc.Tiploc}

-- the lines that follow a BS: its BX if there is one, and its journey; a cancellation needs none
abbrev pub further_lines : Option BodyLines → List (List ℕ)
further_lines None = []
further_lines (Some body) = drop 1 body

-- the columns of a schedule's BS, with these dates in place of its own
abbrev pub rows_on : ℕ → ℕ → Schedule → List Row
rows_on first last s = basic_rows s.uid first last s.days s.letter (option_map detail_of s.body)

-- the plain lines of a schedule with these terms
unfoldable pub schedule_lines : List ℕ → ℕ → ℕ → List Bool → Stp → Option BodyLines → List (List ℕ)
schedule_lines uid first last days letter body =
    plain_line (basic_rows uid first last days letter (option_map detail_of body)) ∷ further_lines body

-- the plain lines of a schedule, of a location and of an association
abbrev pub plain_lines_of : Schedule → List (List ℕ)
plain_lines_of s = plain_line (rows_on s.first s.last s) ∷ further_lines s.body

abbrev pub line_of_tiploc : Tiploc → List ℕ
line_of_tiploc t = plain_line (tiploc_table t)

abbrev pub line_of_association : Association → List ℕ
line_of_association a = plain_line (association_table a)

-- the plain lines of an extract: header, locations, associations, schedules, trailer
abbrev pub extract_lines : ExtractParts → List (List ℕ)
extract_lines x =
    plain_line (header_table x.header) ∷ (map line_of_tiploc x.tiplocs
    ++ (map line_of_association x.associations ++ (flat_map plain_lines_of x.schedules ++ (plain_line trailer_table ∷ []))))

-- its text: its plain lines, each with a line feed, and nothing else
abbrev pub extract_text : ExtractParts → List ℕ
extract_text x = lines_text (extract_lines x)

-- what a schedule says can stand in the columns of lines
pub record ScheduleFits (s : Schedule) : Type 0 where
  pub basic : AllFit (rows_on s.first s.last s)
  pub body : IfSome s.body IsBody

-- what the extract says can stand in the columns of lines
pub record FitsColumns (x : ExtractParts) : Type 0 where
  pub header : AllFit (header_table x.header)
  pub tiplocs : All (λ (t : Tiploc). AllFit (tiploc_table t)) x.tiplocs
  pub associations : All (λ (a : Association). AllFit (association_table a)) x.associations
  pub schedules : All ScheduleFits x.schedules
