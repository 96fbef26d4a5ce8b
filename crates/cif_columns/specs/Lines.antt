-- Lines that are kept without the spaces at their ends, and lines as they are written.
use Rattle.std.specs.Prelude.{◌≡◌, ◌==◌, ℕ, zero, suc, ◌-◌, Bool, true, false, List, [], ◌∷◌, ◌++◌, All, drop, length, replicate, take}
use Rattle.std.specs.List.{flat_map}
use Rattle.cif_columns.specs.Line.{IsLine}

abbrev pub is_space : ℕ → Bool
is_space b = b == 32

-- How many columns there are up to the last that is no space: by whether the first is a space, and by how many there are behind it.
abbrev pub used_with : Bool → ℕ → ℕ
used_with true zero = 0
used_with true (suc count) = suc (suc count)
used_with false count = suc count

abbrev pub used : List ℕ → ℕ
used [] = 0
used (b ∷ columns) = used_with (is_space b) (used columns)

-- a line as it is kept: the number of its columns up to the last that is no space, and these
abbrev pub kept : List ℕ → List ℕ
kept line = used line ∷ take (used line) line

-- lines as they are kept, one behind another
abbrev pub kept_text : List (List ℕ) → List ℕ
kept_text lines = flat_map kept lines

-- the line that has these columns, and then spaces
abbrev pub wide : List ℕ → List ℕ
wide columns = columns ++ replicate (80 - length columns) 32

-- the lines that bytes keep, at most as many as the first list is long
abbrev pub first_lines_in : List ℕ → List ℕ → List (List ℕ)
first_lines_in [] bytes = []
first_lines_in (_ ∷ more) [] = []
first_lines_in (_ ∷ more) (count ∷ bytes) = wide (take count bytes) ∷ first_lines_in more (drop count bytes)

-- the lines that bytes keep: each is there with one byte at least
abbrev pub lines_in : List ℕ → List (List ℕ)
lines_in bytes = first_lines_in bytes bytes

-- the bytes are lines as they are kept
pub record AreKept (bytes : List ℕ) : Type 0 where
  pub lines : List (List ℕ)
  pub are_lines : All IsLine lines
  pub is : bytes ≡ kept_text lines
