-- How the text of a row is made, field by field. No clause of a listing cites it.
use Rattle.std.specs.Prelude.{Bool, List, [], codes, length, map, nat_le, true, ℕ, ⊤, ◌&&◌, ◌*◌, ◌+◌, ◌++◌, ◌∷◌, ◌≡◌}
use Rattle.std.specs.Borrow.{Bor}
use Rattle.std.specs.List.{flat_map}
use Rattle.cif_rows.specs.Row.{Field, cell, escape, member, padded, without_last}
use Rattle.cif_rows.specs.declared.{format.Format.Format, shape.Padding.Padding, shape.Shape.Shape}
use Rattle.cif_rows.specs.declared.format.Format.TheVariants.{Json, Text, Tsv}
use Rattle.cif_rows.specs.declared.shape.Shape.TheVariants.{Date}

-- what a row begins with, and what it ends with
abbrev pub opening : Format → List ℕ
opening Text = []
opening Tsv = []
opening Json = codes "{"

abbrev pub closing : Format → List ℕ
closing Text = codes "\n"
closing Tsv = codes "\n"
closing Json = codes "}\n"

-- a field, and what stands after it
abbrev pub field_text : Format → Field → List ℕ
field_text Text f = padded f.padding f.columns
field_text Tsv f = cell f.shape f.columns ++ codes "\t"
field_text Json f = member f ++ codes ","

abbrev pub fields_text : Format → List Field → List ℕ
fields_text format fields = flat_map (field_text format) fields

-- the same of a name before the rows
abbrev pub name_text : Format → List ℕ → List ℕ
name_text Text name = []
name_text Tsv name = name ++ codes "\t"
name_text Json name = []

abbrev pub names_text : Format → List (List ℕ) → List ℕ
names_text format names = flat_map (name_text format) names

abbrev pub names_ended : Format → List ℕ → List ℕ
names_ended Text waits = waits
names_ended Tsv waits = without_last waits ++ codes "\n"
names_ended Json waits = waits

-- six digits are shown as a date
abbrev pub IsOfShape : Shape → List ℕ → Type 0
IsOfShape Date columns = length columns ≡ 6
IsOfShape _ columns = ⊤

-- how many bytes a cell takes at most
abbrev pub width_of : Shape → List ℕ → ℕ
width_of Date columns = 10
width_of _ columns = length columns

-- fields, as the code has them; each can be shown as its shape says
abbrev pub GivenField : Type 0
GivenField = Bor (List ℕ) × Padding × Shape × Bor (List ℕ)

abbrev pub field_of : GivenField → Field
field_of given = record { name = given.0.now; padding = given.1; shape = given.2; columns = given.3.now }

abbrev pub fields_of : List GivenField → List Field
fields_of given = map field_of given

abbrev pub AreOfShape : List Field → Type 0
AreOfShape [] = ⊤
AreOfShape (f ∷ fields) = IsOfShape f.shape f.columns × AreOfShape fields

-- how many bytes a field takes at most, in any format
abbrev pub room_of : Field → ℕ
room_of f = length f.name + 2 * width_of f.shape f.columns + 8

abbrev pub room_for : List Field → ℕ
room_for [] = 0
room_for (f ∷ fields) = room_of f + room_for fields

-- a byte that stands in a text of JSON as it is
abbrev pub IsPlain : ℕ → Type 0
IsPlain b = escape b ≡ b ∷ []

-- names, as the code has them; they are short
abbrev pub texts : List (Bor (List ℕ)) → List (List ℕ)
texts names = map (λ name. name.now) names

abbrev pub are_short : List (List ℕ) → Bool
are_short [] = true
are_short (name ∷ names) = nat_le (length name) 100 && are_short names
