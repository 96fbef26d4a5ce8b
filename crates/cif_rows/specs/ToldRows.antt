-- What the text of rows tells of them.
use Rattle.std.specs.Prelude.{All, Bool, List, false, map, true, ℕ, ◌≡◌}
use Rattle.cif_rows.specs.Row.{Field, IsSaid, cell}
use Rattle.cif_rows.specs.declared.shape.{Shape.Shape, Shape.TheVariants.Date, Shape.TheVariants.Number, Shape.TheVariants.Trimmed}
use Rattle.cif_rows.specs.declared.shape.Shape.TheVariants.{Whole}

-- the cells of a row, and which of its fields are numbers
abbrev pub cells_in : List Field → List (List ℕ)
cells_in row = map (λ f. cell f.shape f.columns) row

abbrev pub is_number : Shape → Bool
is_number Number = true
is_number Trimmed = false
is_number Whole = false
is_number Date = false

abbrev pub kinds_in : List Field → List Bool
kinds_in row = map (λ f. is_number f.shape) row

-- The fields of a row have these names, and cells that can be told from what stands around them; and those of each row have.
abbrev pub IsRowOf : List (List ℕ) → List Field → Type 0
IsRowOf names row = (map (λ f. f.name) row ≡ names) × All (λ f. IsSaid (f.shape, f.columns)) row

abbrev pub AreRowsOf : List (List ℕ) → List (List Field) → Type 0
AreRowsOf names rows = All (IsRowOf names) rows
