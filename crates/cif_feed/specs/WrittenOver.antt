-- Columns that are written over those of a line.
use Rattle.std.specs.Prelude.{ℕ, ◌+◌, ◌-◌, Bool, List, [], ◌∷◌, ◌++◌, Option, Some, None, codes, drop, length, take, if◌then◌else◌}
use Rattle.cif_feed.specs.{HolidayCode.letter, declared.holidays.HolidayCode.HolidayCode}

-- the line with these columns, from the one of this number on, in place of its own
unfoldable pub with_columns : ℕ → List ℕ → List ℕ → List ℕ
with_columns first columns line = take (first - 1) line ++ (columns ++ drop (first - 1 + length columns) line)

-- the line, with an open end in the six columns from the one of this number on
abbrev pub with_open_end : Bool → ℕ → List ℕ → List ℕ
with_open_end open_end first line = if open_end then with_columns first (codes "999999") line else line

-- the line, with a holiday code in column 29
abbrev pub with_code : Option HolidayCode → List ℕ → List ℕ
with_code None line = line
with_code (Some code) line = with_columns 29 (letter code ∷ []) line
