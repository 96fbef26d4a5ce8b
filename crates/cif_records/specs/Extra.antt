-- BX: further details of a schedule, their columns, and the reasons to refuse them.
use Rattle.std.specs.Prelude.{ℕ, List, [], ◌∷◌, codes, Option}
use Rattle.cif_columns.specs.Field.{Row, row, AllStandIn, columns, exactly, text, spare}
use Rattle.cif_columns.specs.{Text.text_of, declared.refusal.Refusal.Refusal}
use Rattle.cif_records.specs.{Checks.first_of, Checks.identity_refusal, declared.extra.Extra.Extra}

-- the columns of further details
abbrev pub extra_table : Extra → List Row
extra_table r =
    row 1 2 (exactly (codes "BX"))
    ∷ row 3 6 (text r.traction)
    ∷ row 7 11 (text r.uic)
    ∷ row 12 13 (text r.operator_code)
    ∷ row 14 14 (text r.timetable_code)
    ∷ row 15 22 (text r.reserved_a)
    ∷ row 23 23 (text r.reserved_b)
    ∷ row 24 80 spare
    ∷ []

-- the line spells it: each of its values stands in its columns
abbrev pub SpellsExtra : List ℕ → Extra → Type 0
SpellsExtra line r = AllStandIn line (extra_table r)

-- the further details that a line spells, if it spells one: what stands in its columns
abbrev pub extra_in : List ℕ → Extra
extra_in line = record {
  traction = text_of (columns 3 6 line);
  uic = text_of (columns 7 11 line);
  operator_code = text_of (columns 12 13 line);
  timetable_code = text_of (columns 14 14 line);
  reserved_a = text_of (columns 15 22 line);
  reserved_b = text_of (columns 23 23 line);
}

-- the first reason to refuse a line as further details
unfoldable pub extra_refusal : List ℕ → Option Refusal
extra_refusal line = first_of (
    identity_refusal (codes "BX") line
    ∷ [])
