-- ZZ: the trailer, its columns, and the reason to refuse one.
use Rattle.std.specs.Prelude.{ℕ, List, [], ◌∷◌, Option, codes}
use Rattle.cif_columns.specs.{Field.Row, Field.exactly, Field.row, Field.spare, declared.refusal.Refusal.Refusal}
use Rattle.cif_records.specs.Checks.{first_of, identity_refusal}

-- the columns of a trailer
abbrev pub trailer_table : List Row
trailer_table =
    row 1 2 (exactly (codes "ZZ"))
    ∷ row 3 80 spare
    ∷ []

-- the first reason to refuse a line as a trailer
unfoldable pub trailer_refusal : List ℕ → Option Refusal
trailer_refusal line = first_of (identity_refusal (codes "ZZ") line ∷ [])
