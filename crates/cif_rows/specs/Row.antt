-- A row: fields with names, and its text in each format.
use Rattle.std.specs.Prelude.{All, Bool, List, [], codes, decimal, if◌then◌else◌, length, map, nat_eq, nat_lt, slice_index_or, take, ℕ, ◌++◌, ◌-◌, ◌||◌, ◌∷◌, ◌≤◌}
use Rattle.std.specs.List.{flat_map, join_with_byte}
use Rattle.cif_columns.specs.{Line.ArePrintable, Lines.used}
use Rattle.cif_rows.specs.declared.{format.Format.Format, shape.Padding.Padding, shape.Shape.Shape}
use Rattle.cif_rows.specs.declared.format.Format.TheVariants.{Json, Text, Tsv}
use Rattle.cif_rows.specs.declared.shape.{Padding.TheVariants.Apart, Padding.TheVariants.Hidden, Padding.TheVariants.Joined}
use Rattle.cif_rows.specs.declared.shape.Shape.TheVariants.{Date, Number, Trimmed, Whole}

-- a field: its name, its columns, how a table shows them, and how a line of text lays them out
pub record Field : Type 0 where
  pub name : List ℕ
  pub padding : Padding
  pub shape : Shape
  pub columns : List ℕ

-- what stands in a field of a table: how it is shown, and its columns
abbrev pub Value : Type 0
Value = Shape × List ℕ

-- an empty one, a text, and a number
abbrev pub nothing : Value
nothing = (Trimmed, [])

abbrev pub text : List ℕ → Value
text codes = (Trimmed, codes)

abbrev pub number : ℕ → Value
number n = (Number, decimal n)

-- a field of a table
abbrev pub named : List ℕ → Value → Field
named name value = record { name = name; padding = Apart; shape = value.0; columns = value.1 }

-- one that text joins with the next, one that only tables have, and one that the record doesn't have
abbrev pub joined : List ℕ → Value → Field
joined name value = record { name = name; padding = Joined; shape = value.0; columns = value.1 }

abbrev pub hidden : List ℕ → Value → Field
hidden name value = record { name = name; padding = Hidden; shape = value.0; columns = value.1 }

abbrev pub absent : List ℕ → Field
absent name = hidden name nothing

abbrev pub all_named : List (List ℕ) → List Value → List Field
all_named [] values = []
all_named (name ∷ names) [] = []
all_named (name ∷ names) (value ∷ values) = named name value ∷ all_named names values

-- a number
abbrev pub number_field : List ℕ → ℕ → Field
number_field name n = record { name = name; padding = Apart; shape = Number; columns = decimal n }

-- ---- what a table shows

-- columns without the spaces at their end
abbrev pub trimmed : List ℕ → List ℕ
trimmed columns = take (used columns) columns

-- the first two digits of the year whose last two begin with this digit: years 60 to 99 are 1960 to 1999, and years 00 to 59 are 2000
-- to 2059
abbrev pub century : ℕ → List ℕ
century digit = if nat_lt digit 54 then codes "20" else codes "19"

-- the date YYYY-MM-DD of six digits YYMMDD
unfoldable pub long_date : List ℕ → List ℕ
long_date yymmdd =
    let digit : ℕ → ℕ = λ n. slice_index_or yymmdd n 0 in
    century (digit 0) ++ (digit 0 ∷ digit 1 ∷ 45 ∷ digit 2 ∷ digit 3 ∷ 45 ∷ digit 4 ∷ digit 5 ∷ [])

-- the cell of columns
abbrev pub cell : Shape → List ℕ → List ℕ
cell Trimmed columns = trimmed columns
cell Whole columns = columns
cell Date columns = long_date columns
cell Number columns = columns

abbrev pub cell_of : Value → List ℕ
cell_of value = cell value.0 value.1

-- ---- JSON

-- a text in quotes, with a backslash before each quote and each backslash
abbrev pub is_escaped : ℕ → Bool
is_escaped b = nat_eq b 34 || nat_eq b 92

abbrev pub escape : ℕ → List ℕ
escape b = if is_escaped b then 92 ∷ b ∷ [] else b ∷ []

abbrev pub quoted : List ℕ → List ℕ
quoted text = 34 ∷ (flat_map escape text ++ (34 ∷ []))

-- the value of a cell: null if it is empty, and else its digits, if it is a number, or its text
abbrev pub text_value : List ℕ → List ℕ
text_value [] = codes "null"
text_value (b ∷ text) = quoted (b ∷ text)

abbrev pub number_value : List ℕ → List ℕ
number_value [] = codes "null"
number_value (b ∷ digits) = b ∷ digits

abbrev pub value_text : Shape → List ℕ → List ℕ
value_text Number cell = number_value cell
value_text Trimmed cell = text_value cell
value_text Whole cell = text_value cell
value_text Date cell = text_value cell

-- a field of an object: its name and its value
abbrev pub member : Field → List ℕ
member f = (34 ∷ f.name) ++ (codes "\":" ++ value_text f.shape (cell f.shape f.columns))

-- ---- lines of text

-- the columns of a field, and what stands after them
abbrev pub padded : Padding → List ℕ → List ℕ
padded Apart columns = columns ++ codes " "
padded Joined columns = columns
padded Hidden columns = []

-- a text without its last byte
abbrev pub without_last : List ℕ → List ℕ
without_last text = take (length text - 1) text

-- ---- the text of a row

abbrev pub row_text : Format → List Field → List ℕ
row_text Text row = without_last (flat_map (λ f. padded f.padding f.columns) row) ++ codes "\n"
row_text Tsv row = join_with_byte 9 (map (λ f. cell f.shape f.columns) row) ++ codes "\n"
row_text Json row = codes "{" ++ (join_with_byte 44 (map member row) ++ codes "}\n")

-- a row of JSON whose last field are its calls: a list of objects
abbrev pub object_text : List Field → List ℕ
object_text fields = codes "{" ++ (join_with_byte 44 (map member fields) ++ codes "}")

abbrev pub calls_member : List (List Field) → List ℕ
calls_member calls = codes "\"calls\":[" ++ (join_with_byte 44 (map object_text calls) ++ codes "]")

abbrev pub row_with_calls : List Field → List (List Field) → List ℕ
row_with_calls row calls = codes "{" ++ (join_with_byte 44 (map member row ++ (calls_member calls ∷ [])) ++ codes "}\n")

-- names before the rows, which only a table has
abbrev pub heading_text : Format → List (List ℕ) → List ℕ
heading_text Text names = []
heading_text Tsv names = join_with_byte 9 names ++ codes "\n"
heading_text Json names = []

-- ---- what a row says

-- A cell can be told from what stands around it: a number has digits only, and other cells have bytes from 0x20 to 0x7E.
abbrev pub IsDigit : ℕ → Type 0
IsDigit b = (48 ≤ b) × (b ≤ 57)

abbrev pub IsSaid : Value → Type 0
IsSaid (Number, columns) = All IsDigit columns
IsSaid (Trimmed, columns) = ArePrintable (trimmed columns)
IsSaid (Whole, columns) = ArePrintable columns
IsSaid (Date, columns) = ArePrintable (long_date columns)
