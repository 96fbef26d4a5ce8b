-- Columns 3 to 60 of HD, which a header keeps as they stand.
use Rattle.std.specs.Prelude.{◌≡◌, ℕ, ◌-◌, List, ◌++◌, codes}
use Rattle.cif_columns.specs.{DayDigits.ddmmyy_of, Field.columns}

-- of columns 3 to 60, which a header keeps, those from one to another, numbered as in the line
abbrev pub kept : ℕ → ℕ → List ℕ → List ℕ
kept from to header_columns = columns (from - 2) (to - 2) header_columns

-- the update indicator says that the extract is full
abbrev pub IsFull : List ℕ → Type 0
IsFull header_columns = kept 47 47 header_columns ≡ codes "F"

-- columns 3 to 60 with another window: its first and its last day are put into columns 49 to 60
abbrev pub with_window : ℕ → ℕ → List ℕ → List ℕ
with_window first last header_columns = kept 3 48 header_columns ++ (ddmmyy_of first ++ ddmmyy_of last)
