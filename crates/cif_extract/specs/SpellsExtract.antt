-- When lines, and bytes, spell an extract.
use Rattle.std.specs.Prelude.{ℕ, ◌≤◌, List, [], ◌∷◌, All, length}
use Rattle.cif_columns.specs.{Contents.contents_of, Line.IsLine}
use Rattle.cif_extract.specs.{ExtractParts.ExtractParts, Grammar.AreExtract}
use Rattle.cif_records.specs.{Record.SpellsRecord, declared.record.Record.Record}

-- each line spells its record, by this relation of a line and a record
abbrev pub SpellAllBy : (List ℕ → Record → Type 0) → List (List ℕ) → List Record → Type 0
SpellAllBy Spells [] [] = Unit {0}
SpellAllBy Spells [] (r ∷ records) = ⊥
SpellAllBy Spells (line ∷ lines) [] = ⊥
SpellAllBy Spells (line ∷ lines) (r ∷ records) = Spells line r × SpellAllBy Spells lines records

-- the lines spell the records of an extract of these parts
pub record SpellExtractBy (Spells : List ℕ → Record → Type 0) (lines : List (List ℕ)) (x : ExtractParts) : Type 0 where
  pub records : List Record
  pub spelled : SpellAllBy Spells lines records
  pub are : AreExtract records x

-- as lines of this profile
abbrev pub SpellAll : List (List ℕ) → List Record → Type 0
SpellAll = SpellAllBy SpellsRecord

abbrev pub SpellExtract : List (List ℕ) → ExtractParts → Type 0
SpellExtract = SpellExtractBy SpellsRecord

-- the bytes spell an extract of these parts: their contents are lines, and these spell it
pub record BytesSpell (bytes : List ℕ) (x : ExtractParts) : Type 0 where
  pub are_lines : All IsLine (contents_of bytes)
  pub spelled : SpellExtract (contents_of bytes) x

-- the same, in at most max lines
pub record BytesSpellWithin (max : ℕ) (bytes : List ℕ) (x : ExtractParts) : Type 0 where
  pub spell : BytesSpell bytes x
  pub within : length (contents_of bytes) ≤ max
