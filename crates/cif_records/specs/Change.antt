-- CR: a change of a train on the way of a journey, its columns, and the reasons to refuse one.
use Rattle.std.specs.Prelude.{ℕ, List, [], ◌∷◌, codes, Option}
use Rattle.cif_columns.specs.Field.{Row, row, AllStandIn, columns, exactly, text, spare}
use Rattle.cif_columns.specs.{Text.text_of, declared.refusal.Refusal.Refusal}
use Rattle.cif_records.specs.{Checks.first_of, Checks.identity_refusal, declared.change.Change.Change}

-- the columns of a change
abbrev pub change_table : Change → List Row
change_table r =
    row 1 2 (exactly (codes "CR"))
    ∷ row 3 9 (text r.location)
    ∷ row 10 10 (text r.suffix)
    ∷ row 11 12 (text r.category)
    ∷ row 13 16 (text r.identity)
    ∷ row 17 20 (text r.headcode)
    ∷ row 21 21 (text r.course)
    ∷ row 22 29 (text r.service_code)
    ∷ row 30 30 (text r.sector)
    ∷ row 31 33 (text r.power)
    ∷ row 34 37 (text r.timing_load)
    ∷ row 38 40 (text r.speed)
    ∷ row 41 46 (text r.characteristics)
    ∷ row 47 47 (text r.class)
    ∷ row 48 48 (text r.sleepers)
    ∷ row 49 49 (text r.reservations)
    ∷ row 50 50 (text r.connection)
    ∷ row 51 54 (text r.catering)
    ∷ row 55 58 (text r.branding)
    ∷ row 59 62 (text r.traction)
    ∷ row 63 67 (text r.uic)
    ∷ row 68 75 (text r.reserved_a)
    ∷ row 76 80 spare
    ∷ []

-- the line spells it: each of its values stands in its columns
abbrev pub SpellsChange : List ℕ → Change → Type 0
SpellsChange line r = AllStandIn line (change_table r)

-- the change that a line spells, if it spells one: what stands in its columns
abbrev pub change_in : List ℕ → Change
change_in line = record {
  location = text_of (columns 3 9 line);
  suffix = text_of (columns 10 10 line);
  category = text_of (columns 11 12 line);
  identity = text_of (columns 13 16 line);
  headcode = text_of (columns 17 20 line);
  course = text_of (columns 21 21 line);
  service_code = text_of (columns 22 29 line);
  sector = text_of (columns 30 30 line);
  power = text_of (columns 31 33 line);
  timing_load = text_of (columns 34 37 line);
  speed = text_of (columns 38 40 line);
  characteristics = text_of (columns 41 46 line);
  class = text_of (columns 47 47 line);
  sleepers = text_of (columns 48 48 line);
  reservations = text_of (columns 49 49 line);
  connection = text_of (columns 50 50 line);
  catering = text_of (columns 51 54 line);
  branding = text_of (columns 55 58 line);
  traction = text_of (columns 59 62 line);
  uic = text_of (columns 63 67 line);
  reserved_a = text_of (columns 68 75 line);
}

-- the first reason to refuse a line as a change
unfoldable pub change_refusal : List ℕ → Option Refusal
change_refusal line = first_of (
    identity_refusal (codes "CR") line
    ∷ [])
