-- The rows of differences as the code makes them. No public clause cites them.
use Rattle.std.specs.Prelude.{Bool, List, [], codes, cond, decimal, drop, false, if◌then◌else◌, length, map, nat_eq, nat_le, replicate, true}
use Rattle.std.specs.Prelude.{ℕ, ◌&&◌, ◌++◌, ◌+◌, ◌∷◌}
use Rattle.std.specs.{Cmp.Lexicographic.pointwise, List.flat_map}
use Rattle.cif_columns.specs.Field.{columns}
use Rattle.cif_rows.specs.{Row.Value, Row.cell_of, Row.nothing, Row.text, declared.format.Format.Format}
use Rattle.cif_views.specs.DifferenceTable.{difference_text, differing_row, in_journey}
use Rattle.cif_views.specs.Tables.{is_call, is_change, kind_of_line}
use Rattle.cif_views.specs.Steps.Columns.{Column, call_columns, change_columns, is_within, value_in}
use Rattle.cif_views.specs.declared.{columns.FieldPlace.FieldPlace, columns.JourneyKind.JourneyKind}
use Rattle.cif_views.specs.declared.columns.FieldPlace.TheVariants.{Call, Date, DayFirst, Nowhere, Text, Whole}

-- fields that are shown as text, and whose names are short
abbrev pub is_text_place : FieldPlace → Bool
is_text_place (Text _ _) = true
is_text_place Nowhere = true
is_text_place (Call _ _ _) = true
is_text_place (Whole _ _) = false
is_text_place (Date _ _) = false
is_text_place (DayFirst _ _) = false

abbrev pub is_text : Column → Bool
is_text c = nat_le (length c.0) 20 && (is_text_place c.1 && is_within c.1)

abbrev pub are_texts : List Column → Bool
are_texts [] = true
are_texts (c ∷ columns) = is_text c && are_texts columns

-- the row of a field, after the values with which it begins, if its cells differ
unfoldable pub field_row : List Value → JourneyKind → List ℕ → List ℕ → Column → List (List Value)
field_row start kind left right c =
    let one = value_in kind left c.1 in
    let other = value_in kind right c.1 in
    if pointwise nat_eq (cell_of one) (cell_of other) then [] else differing_row start c.0 one other ∷ []

abbrev pub field_rows : List Value → JourneyKind → List ℕ → List ℕ → List Column → List (List Value)
field_rows start kind left right columns = flat_map (field_row start kind left right) columns

-- the fields that a line of a journey has behind its suffix
abbrev pub own_columns : JourneyKind → List Column
own_columns kind = cond (is_change kind) (drop 2 change_columns) (drop 3 call_columns)

-- the lines of two journeys have the same places
abbrev pub same_places : List (List ℕ) → List (List ℕ) → Bool
same_places lefts rights = pointwise (pointwise nat_eq) (map (columns 1 10) lefts) (map (columns 1 10) rights)

abbrev pub count_of_calls : List (List ℕ) → ℕ
count_of_calls [] = 0
count_of_calls (line ∷ lines) = cond (is_call (kind_of_line line)) (count_of_calls lines + 1) (count_of_calls lines)

-- the rows of one place of both journeys
abbrev pub rows_of_place : List Value → ℕ → JourneyKind → List ℕ → List ℕ → List (List Value)
rows_of_place head call kind line other = field_rows (in_journey head call line) kind line other (own_columns kind)

-- the rows of lines with the same places; the first call that comes has this number
abbrev pub rows_of_places : List Value → ℕ → List (List ℕ) → List (List ℕ) → List (List Value)
rows_of_places head call [] rights = []
rows_of_places head call (line ∷ lefts) [] = []
rows_of_places head call (line ∷ lefts) (other ∷ rights) =
    rows_of_place head call (kind_of_line line) line other
    ++ rows_of_places head (cond (is_call (kind_of_line line)) (call + 1) call) lefts rights

-- and those of two journeys
abbrev pub row_of_counts : List Value → ℕ → ℕ → List Value
row_of_counts head one other = differing_row (head ++ replicate 3 nothing) (codes "journey") (text (decimal one)) (text (decimal other))

abbrev pub rows_of_journeys : List Value → List (List ℕ) → List (List ℕ) → List (List Value)
rows_of_journeys head lefts rights =
    cond (same_places lefts rights) (rows_of_places head 1 lefts rights)
    (row_of_counts head (count_of_calls lefts) (count_of_calls rights) ∷ [])

-- the text of rows
abbrev pub rows_text : Format → List (List Value) → List ℕ
rows_text format rows = flat_map (difference_text format) rows
