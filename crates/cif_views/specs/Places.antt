-- Places: words that name locations by their TIPLOC or by their CRS code.
use Rattle.std.specs.Prelude.{Contains, IsTrue, List, None, Some, if◌then◌else◌, length, map, nat_eq, ℕ, ◌<◌, ◌≡◌, ◌≤◌, ◌⊎◌}
use Rattle.std.specs.{Char.is_ascii_graphic, Char.to_ascii_uppercase, List.list_all}
use Rattle.cif_columns.specs.{Field.columns, Text.left_justified}
use Rattle.cif_extract.specs.Texts.{line_of_tiploc}
use Rattle.cif_records.specs.declared.tiploc.Tiploc.{Tiploc}
use Rattle.cif_views.specs.declared.places.Place.{Place}

-- The word is a place: 1 to 7 bytes from 0x21 to 0x7E, of which a to z stand for A to Z. It is a TIPLOC, in seven columns, and a word of
-- three bytes may be a CRS code too.
pub record IsPlaceWord (word : List ℕ) : Type 0 where
  pub some : 0 < length word
  pub narrow : length word ≤ 7
  pub visible : IsTrue (list_all is_ascii_graphic word)

pub record IsPlaceOf (word : List ℕ) (place : Place) : Type 0 where
  pub is_word : IsPlaceWord word
  pub tiploc : place.tiploc ≡ map to_ascii_uppercase (left_justified 7 word)
  pub crs : place.crs ≡ (if nat_eq (length word) 3 then Some (map to_ascii_uppercase word) else None)

-- what stands in a TI: its TIPLOC, its CRS code, and its name
abbrev pub tiploc_of : Tiploc → List ℕ
tiploc_of t = columns 3 9 (line_of_tiploc t)

abbrev pub crs_of : Tiploc → List ℕ
crs_of t = columns 54 56 (line_of_tiploc t)

abbrev pub name_of : Tiploc → List ℕ
name_of t = columns 19 44 (line_of_tiploc t)

-- a TI among these has this CRS code, which the word is, and this TIPLOC
pub record HasCode (tiplocs : List Tiploc) (place : Place) (location : List ℕ) : Type 0 where
  pub it : Tiploc
  pub listed : Contains tiplocs it
  pub code : place.crs ≡ Some (crs_of it)
  pub own : tiploc_of it ≡ location

-- The place names the location with this TIPLOC: its word is the TIPLOC, or is the CRS code of a TI with it.
abbrev pub IsNamed : List Tiploc → Place → List ℕ → Type 0
IsNamed tiplocs place location = (location ≡ place.tiploc) ⊎ HasCode tiplocs place location
