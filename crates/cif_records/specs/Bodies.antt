-- Which records have a body, and its columns.
use Rattle.std.specs.Prelude.{Bool, true, false, Option, None, Some}
use Rattle.cif_columns.specs.{Field.FieldValue, Field.spare, declared.stp.Stp.Stp}
use Rattle.cif_columns.specs.declared.stp.Stp.TheVariants.{P, N, O, C}

-- all but the cancellations
abbrev pub has_body : Stp → Bool
has_body C = false
has_body N = true
has_body O = true
has_body P = true

-- a column of the body, which is spare where there is none
abbrev pub of_body : {B : Type 0} → Option B → (B → FieldValue) → FieldValue
of_body None value = spare
of_body (Some body) value = value body
