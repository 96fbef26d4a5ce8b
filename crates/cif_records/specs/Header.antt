-- HD: the header of an extract, its columns, and the reasons to refuse one.
use Rattle.std.specs.Prelude.{ℕ, List, [], ◌∷◌, Option, codes}
use Rattle.cif_columns.specs.{Day.ddmmyy_in, DayDigits.ddmmyy_of, declared.refusal.Refusal.Refusal}
use Rattle.cif_columns.specs.{declared.refusal.Refusal.TheVariants.DatesReversed, declared.refusal.Refusal.TheVariants.NotFull}
use Rattle.cif_columns.specs.Field.{AllStandIn, Row, row, columns, exactly, spare}
use Rattle.cif_records.specs.Checks.{are, are_in_order, first_of, header_date_refusal, identity_refusal, unless}
use Rattle.cif_records.specs.{HeaderColumns.kept, declared.header.Header.Header}

-- the columns of this header, which keeps columns 3 to 60 as they stand, but for the update indicator, which is this one
abbrev pub header_rows_by : List ℕ → Header → List Row
header_rows_by indicator h =
    row 1 2 (exactly (codes "HD"))
    ∷ row 3 46 (exactly (kept 3 46 h.columns))
    ∷ row 47 47 (exactly indicator)
    ∷ row 48 48 (exactly (kept 48 48 h.columns))
    ∷ row 49 54 (exactly (ddmmyy_of h.first))
    ∷ row 55 60 (exactly (ddmmyy_of h.last))
    ∷ row 61 80 spare
    ∷ []

-- as an extract of this profile has them
abbrev pub header_table : Header → List Row
header_table h = header_rows_by (codes "F") h

-- The line spells the header: each of its values stands in its columns. That the first date isn't after the last is an invariant of the
-- type `Header`, and so is that its columns 47, 49 to 54 and 55 to 60 are these.
abbrev pub SpellsHeader : List ℕ → Header → Type 0
SpellsHeader line h = AllStandIn line (header_table h)

-- the first reason to refuse a line as a header with this update indicator
unfoldable pub header_refusal_by : List ℕ → List ℕ → Option Refusal
header_refusal_by indicator line = first_of (
    identity_refusal (codes "HD") line
    ∷ unless (are (columns 47 47 line) indicator) NotFull
    ∷ header_date_refusal (columns 49 54 line)
    ∷ header_date_refusal (columns 55 60 line)
    ∷ unless (are_in_order (ddmmyy_in (columns 49 54 line)) (ddmmyy_in (columns 55 60 line))) DatesReversed
    ∷ [])

-- as a header of this profile
abbrev pub header_refusal : List ℕ → Option Refusal
header_refusal line = header_refusal_by (codes "F") line
