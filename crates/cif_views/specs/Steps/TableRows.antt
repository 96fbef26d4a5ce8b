-- The rows of tables as the code makes them. No public clause cites them.
use Rattle.std.specs.Prelude.{ℕ, Bool, true, false, List, [], ◌∷◌, codes, cond, nat_eq, if◌then◌else◌}
use Rattle.std.specs.List.{flat_map}
use Rattle.cif_rows.specs.Row.{Field, named, number_field}
use Rattle.cif_rows.specs.declared.shape.Shape.TheVariants.{Number}
use Rattle.cif_views.specs.Steps.Columns.{Column, call_columns, change_columns, fields_in}
use Rattle.cif_views.specs.Tables.{Numbered, call_fields, change_fields, is_call, is_change, kind_of_line, numbered_from, row_of}
use Rattle.cif_views.specs.declared.columns.JourneyKind.{JourneyKind}
use Rattle.cif_views.specs.declared.columns.JourneyKind.TheVariants.{Origin, Stop, Terminus}

-- the kinds of calls by number
abbrev pub call_kind : ℕ → JourneyKind
call_kind n = if nat_eq n 0 then Origin else (if nat_eq n 1 then Stop else Terminus)

-- whether the table of the calls, or else that of the changes, has a row of a line of this kind; and its columns
abbrev pub has_row : Bool → JourneyKind → Bool
has_row true kind = is_call kind
has_row false kind = is_change kind

abbrev pub journey_columns : Bool → List Column
journey_columns true = call_columns
journey_columns false = change_columns

-- the row of a line of this kind, whose schedule has this numeral; other lines have none
abbrev pub row_of_kind : Bool → List ℕ → ℕ → JourneyKind → List ℕ → List (List Field)
row_of_kind calls schedule call kind line =
    cond (has_row calls kind)
    ((named (codes "schedule") (Number, schedule) ∷ number_field (codes "call") call ∷ fields_in kind (journey_columns calls) line) ∷ []) []

-- the rows that a table of calls or of changes has of a numbered line
abbrev pub rows_of : Bool → Numbered → List (List Field)
rows_of true p = cond (is_call (kind_of_line p.line)) (row_of call_fields p ∷ []) []
rows_of false p = cond (is_change (kind_of_line p.line)) (row_of change_fields p ∷ []) []

-- those of the lines of a schedule
abbrev pub journey_rows : Bool → ℕ → List (List ℕ) → List (List Field)
journey_rows calls schedule lines = flat_map (rows_of calls) (numbered_from schedule 1 lines)
