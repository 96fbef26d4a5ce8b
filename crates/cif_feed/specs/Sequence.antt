-- When an update follows an extract.
use Rattle.std.specs.Prelude.{ℕ, Bool, ◌||◌, List, replicate}
use Rattle.cif_records.specs.{Checks.are, HeaderColumns.kept, declared.header.Header.Header}

-- the current reference of an extract, columns 33 to 39 of its HD, and its last reference, columns 40 to 46
abbrev pub current_reference : Header → List ℕ
current_reference h = kept 33 39 h.columns

abbrev pub last_reference : Header → List ℕ
last_reference h = kept 40 46 h.columns

-- An update with one header follows an extract with another: its last reference is blank, or is the current reference of the extract,
-- byte for byte.
abbrev pub follows : Header → Header → Bool
follows update extract = are (last_reference update) (replicate 7 32) || are (last_reference update) (current_reference extract)
