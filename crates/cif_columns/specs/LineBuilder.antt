-- Lines that are written from the left, row by row.
use Rattle.std.specs.Prelude.{ℕ, ◌+◌, List, [], ◌∷◌, ◌++◌, if◌then◌else◌, length, nat_le}
use Rattle.cif_columns.specs.Field.{Row, plain_columns, width_of}

-- columns put behind those of a line, where there is room for them
unfoldable pub put : List ℕ → List ℕ → List ℕ
put line part = if nat_le (length line + length part) 80 then line ++ part else line

-- The rows' plain columns, put behind a line one after another. Behind no columns those of a whole table are its plain line. It serves
-- the writers' own steps, and no clause of a public function cites it.
abbrev pub put_all : List ℕ → List Row → List ℕ
put_all line [] = line
put_all line (r ∷ rows) = put_all (put line (plain_columns (width_of r) r.value)) rows
