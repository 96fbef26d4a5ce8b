-- What an archive knows of two files by their canonical bytes from one date to another.
use Rattle.std.specs.Prelude.{◌↔◌, ℕ, Bool, IsTrue, List, Some}
use Rattle.cif_columns.specs.declared.line_reader.TheConstants.{MAX_LINES}
use Rattle.cif_extract.specs.ExtractParts.{ExtractParts}
use Rattle.cif_weeks.specs.declared.form.Form.TheVariants.{Two}
use Rattle.cif_canon.specs.Accepted.{IsAccepted}
use Rattle.cif_canon.specs.Meaning.{Agree}
use Rattle.cif_canon.specs.Normalised.{IsNormalised}
use Rattle.cif_canon.specs.declared.asked.Asked.{Asked}
use Rattle.cif_canon.specs.declared.canonical_form.Counts.{Counts}

-- the window from one date to another is asked for
abbrev pub dates : ℕ → ℕ → Asked
dates from to = record { from = Some from; to = Some to }

-- these are the canonical bytes of the extract from one date to another
abbrev pub AreCanonicalBytes : ℕ → ℕ → List ℕ → List ℕ → Type 0
AreCanonicalBytes from to extract bytes = (counts : Counts) × IsNormalised Two (dates from to) MAX_LINES extract bytes counts

-- The files are accepted as extracts for these dates, and the answer is true exactly if the extracts agree on them.
pub record IsAnswer (from to : ℕ) (one other : List ℕ) (same : Bool) : Type 0 where
  pub x : ExtractParts
  pub x_accepted : IsAccepted (dates from to) x one
  pub y : ExtractParts
  pub y_accepted : IsAccepted (dates from to) y other
  pub agree : IsTrue same ↔ Agree (record { first = from; last = to }) x y
