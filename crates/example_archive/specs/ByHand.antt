-- What a program knows of the canonical text of an extract that it holds.
use Rattle.std.specs.Prelude.{ℕ, List}
use Rattle.cif_extract.specs.ExtractParts.{ExtractParts}
use Rattle.cif_weeks.specs.declared.form.Form.TheVariants.{Two}
use Rattle.cif_canon.specs.Canon.{IsCanonOf}
use Rattle.cif_canon.specs.Lines.{ExtractLines}
use Rattle.cif_canon.specs.declared.canonical_form.Counts.{Counts}

-- this is the canonical text of the extract
abbrev pub IsCanonicalTextOf : ExtractParts → List ℕ → Type 0
IsCanonicalTextOf x text =
    (lines : ExtractLines) × (counts : Counts) × IsCanonOf Two x (record { text = text; lines = lines; counts = counts })
