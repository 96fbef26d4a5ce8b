-- The fields of lines by the columns of the tables. No public clause cites them.
use Rattle.std.specs.Prelude.{Bool, List, [], length, map, nat_eq, false, nat_le, true, ℕ, ◌&&◌, ◌*◌, ◌+◌, ◌-◌, ◌∷◌}
use Rattle.std.specs.Borrow.{Bor}
use Rattle.cif_columns.specs.Field.{columns}
use Rattle.cif_rows.specs.Row.{Field, Value, named}
use Rattle.cif_rows.specs.declared.shape.Shape.TheVariants as shape
use Rattle.cif_views.specs.Tables.{yymmdd_from}
use Rattle.cif_views.specs.declared.{columns.FieldPlace.FieldPlace, columns.JourneyKind.JourneyKind}
use Rattle.cif_views.specs.declared.columns.FieldPlace.TheVariants.{Call, Date, DayFirst, Nowhere, Text, Whole}
use Rattle.cif_views.specs.declared.columns.TheConstants.{ASSOCIATION, BASIC, CALL, CHANGE, DIFFERENCE, EXTRA}
use Rattle.cif_views.specs.declared.columns.JourneyKind.TheVariants.{Change, Origin, Other, Stop, Terminus}

-- a field of a table: its name, and its place; and fields as the code has them
abbrev pub Column : Type 0
Column = List ℕ × FieldPlace

abbrev pub column : Bor (List ℕ) × FieldPlace → Column
column given = (given.0.now, given.1)

abbrev pub columns_of : List (Bor (List ℕ) × FieldPlace) → List Column
columns_of given = map column given

-- those that a clause or a proof names
abbrev pub over : {A B : Type 0} → List A → (A → B) → List B
over items f = map f items

abbrev pub association_columns : List Column
association_columns = over ASSOCIATION (λ c. (c.0.now, c.1))

abbrev pub basic_columns : List Column
basic_columns = over BASIC (λ c. (c.0.now, c.1))

abbrev pub extra_columns : List Column
extra_columns = over EXTRA (λ c. (c.0.now, c.1))

abbrev pub call_columns : List Column
call_columns = over CALL (λ c. (c.0.now, c.1))

abbrev pub difference_columns : List Column
difference_columns = over DIFFERENCE (λ c. (c.0.now, c.1))

abbrev pub change_columns : List Column
change_columns = over CHANGE (λ c. (c.0.now, c.1))

-- the first and the last column of a place in a line of this kind, and how a table shows what stands there
abbrev pub span_of_call : JourneyKind → ℕ × ℕ → ℕ × ℕ → ℕ × ℕ → ℕ × ℕ
span_of_call Origin origin stop terminus = origin
span_of_call Stop origin stop terminus = stop
span_of_call Terminus origin stop terminus = terminus
span_of_call Change origin stop terminus = (1, 0)
span_of_call Other origin stop terminus = (1, 0)

abbrev pub span_in : JourneyKind → FieldPlace → ℕ × ℕ
span_in kind (Text first last) = (first, last)
span_in kind (Whole first last) = (first, last)
span_in kind (Date first last) = (first, last)
span_in kind (DayFirst first last) = (first, last)
span_in kind Nowhere = (1, 0)
span_in kind (Call origin stop terminus) = span_of_call kind origin stop terminus

abbrev pub shown_at : FieldPlace → List ℕ → Value
shown_at (Text _ _) there = (shape.Trimmed, there)
shown_at (Whole _ _) there = (shape.Whole, there)
shown_at (Date _ _) there = (shape.Date, there)
shown_at (DayFirst _ _) there = (shape.Date, yymmdd_from there)
shown_at Nowhere there = (shape.Trimmed, there)
shown_at (Call _ _ _) there = (shape.Trimmed, there)

abbrev pub value_in : JourneyKind → List ℕ → FieldPlace → Value
value_in kind line place = let span = span_in kind place in shown_at place (columns span.0 span.1 line)

abbrev pub values_in : JourneyKind → List Column → List ℕ → List Value
values_in kind columns line = map (λ c. value_in kind line c.1) columns

-- the fields of a line of this kind
abbrev pub field_in : JourneyKind → List ℕ → Column → Field
field_in kind line c = named c.0 (value_in kind line c.1)

abbrev pub fields_in : JourneyKind → List Column → List ℕ → List Field
fields_in kind columns line = map (field_in kind line) columns

abbrev pub column_names : List Column → List (List ℕ)
column_names columns = map (λ c. c.0) columns

-- columns are within a line; a place has such in each line: that of a date six, and that of a call twelve at most
abbrev pub is_span : ℕ × ℕ → Bool
is_span span = nat_le 1 span.0 && (nat_le span.0 (span.1 + 1) && nat_le span.1 80)

abbrev pub is_short : ℕ × ℕ → Bool
is_short span = is_span span && nat_le span.1 (span.0 + 11)

abbrev pub is_within : FieldPlace → Bool
is_within (Text first last) = is_span (first, last)
is_within (Whole first last) = is_span (first, last)
is_within (Date first last) = is_span (first, last) && nat_eq last (first + 5)
is_within (DayFirst first last) = is_span (first, last) && nat_eq last (first + 5)
is_within Nowhere = true
is_within (Call origin stop terminus) = is_short origin && (is_short stop && is_short terminus)

abbrev pub are_within : List Column → Bool
are_within [] = true
are_within (c ∷ columns) = is_within c.1 && are_within columns

-- what stands there is shown as a text without the spaces at its end
abbrev pub is_text : FieldPlace → Bool
is_text (Text _ _) = true
is_text (Whole _ _) = false
is_text (Date _ _) = false
is_text (DayFirst _ _) = false
is_text Nowhere = true
is_text (Call _ _ _) = true

-- how many bytes a place takes at most; and a field in a row of any format, with its name
abbrev pub width_of : FieldPlace → ℕ
width_of (Text first last) = last + 1 - first
width_of (Whole first last) = last + 1 - first
width_of (Date _ _) = 10
width_of (DayFirst _ _) = 10
width_of Nowhere = 0
width_of (Call _ _ _) = 12

abbrev pub room_of : Column → ℕ
room_of c = length c.0 + 2 * width_of c.1 + 8

abbrev pub room_for : List Column → ℕ
room_for [] = 0
room_for (c ∷ columns) = room_of c + room_for columns
