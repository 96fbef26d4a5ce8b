-- An input and its canonical extract, of which the commands answer the same.
use Rattle.std.specs.Prelude.{List, length, ℕ, ◌≤◌}
use Rattle.cif_canon.specs.{NormalForm.IsNormalFormOf, declared.asked.Asked.Asked}
use Rattle.cif_columns.specs.{Contents.contents_of, declared.line_reader.TheConstants.MAX_LINES}
use Rattle.cif_extract.specs.{ExtractParts.ExtractParts, SpellsExtract.BytesSpellWithin}
use Rattle.cif_weeks.specs.declared.form.Form.{Form}

-- The bytes are the canonical extract of an input, of this form and for the dates that are asked for, and neither has too many lines for
-- the commands.
pub record IsItsCanonical (form : Form) (asked : Asked) (input canonical : List ℕ) : Type 0 where
  pub normal : IsNormalFormOf form asked input canonical
  pub input_within : length (contents_of input) ≤ MAX_LINES
  pub canonical_within : length (contents_of canonical) ≤ MAX_LINES

-- The bytes are an extract, of which this holds.
abbrev pub OfExtract : List ℕ → (ExtractParts → Type 0) → Type 0
OfExtract bytes Holds = (x : ExtractParts) × BytesSpellWithin MAX_LINES bytes x × Holds x
