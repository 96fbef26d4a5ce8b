-- LO: the first location of a journey, its columns, and the reasons to refuse one.
use Rattle.std.specs.Prelude.{ℕ, List, [], ◌∷◌, codes, Option}
use Rattle.cif_columns.specs.{Activities.codes_in, Text.text_of, declared.refusal.Refusal.Refusal}
use Rattle.cif_columns.specs.Field.{Row, row, AllStandIn, columns, exactly, text, activity_codes, working_time, public_time, spare}
use Rattle.cif_records.specs.Checks.{first_of, identity_refusal, public_time_refusal, work_time_refusal}
use Rattle.cif_records.specs.declared.origin.Origin.{Origin}

-- the columns of a first location
abbrev pub origin_table : Origin → List Row
origin_table r =
    row 1 2 (exactly (codes "LO"))
    ∷ row 3 9 (text r.location)
    ∷ row 10 10 (text r.suffix)
    ∷ row 11 15 (working_time r.departure)
    ∷ row 16 19 (public_time r.public_departure)
    ∷ row 20 22 (text r.platform)
    ∷ row 23 25 (text r.line)
    ∷ row 26 27 (text r.engineering)
    ∷ row 28 29 (text r.pathing)
    ∷ row 30 41 (activity_codes r.activities)
    ∷ row 42 43 (text r.performance)
    ∷ row 44 80 spare
    ∷ []

-- the line spells the location: each of its values stands in its columns
abbrev pub SpellsOrigin : List ℕ → Origin → Type 0
SpellsOrigin line r = AllStandIn line (origin_table r)

-- the first location that a line spells, if it spells one: what stands in its columns
abbrev pub origin_in : List ℕ → Origin
origin_in line = record {
  location = text_of (columns 3 9 line);
  suffix = text_of (columns 10 10 line);
  departure = columns 11 15 line;
  public_departure = columns 16 19 line;
  platform = text_of (columns 20 22 line);
  line = text_of (columns 23 25 line);
  engineering = text_of (columns 26 27 line);
  pathing = text_of (columns 28 29 line);
  activities = codes_in (columns 30 41 line);
  performance = text_of (columns 42 43 line);
}

-- the first reason to refuse a line as a first location
unfoldable pub origin_refusal : List ℕ → Option Refusal
origin_refusal line = first_of (
    identity_refusal (codes "LO") line
    ∷ work_time_refusal (columns 11 15 line)
    ∷ public_time_refusal (columns 16 19 line)
    ∷ [])
