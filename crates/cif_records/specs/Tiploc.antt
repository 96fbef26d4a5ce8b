-- TI: a location, its columns, and the reasons to refuse one.
use Rattle.std.specs.Prelude.{ℕ, List, [], ◌∷◌, Option, codes}
use Rattle.cif_columns.specs.Field.{AllStandIn, Row, row, exactly, spare}
use Rattle.cif_columns.specs.declared.refusal.Refusal.{Refusal}
use Rattle.cif_records.specs.{Checks.first_of, Checks.identity_refusal, declared.tiploc.Tiploc.Tiploc}

-- the columns of a location
abbrev pub tiploc_table : Tiploc → List Row
tiploc_table t =
    row 1 2 (exactly (codes "TI"))
    ∷ row 3 72 (exactly t.columns)
    ∷ row 73 80 spare
    ∷ []

-- the line spells the location: columns 3 to 72 are its columns
abbrev pub SpellsTiploc : List ℕ → Tiploc → Type 0
SpellsTiploc line t = AllStandIn line (tiploc_table t)

-- the first reason to refuse a line as a location
unfoldable pub tiploc_refusal : List ℕ → Option Refusal
tiploc_refusal line = first_of (identity_refusal (codes "TI") line ∷ [])
