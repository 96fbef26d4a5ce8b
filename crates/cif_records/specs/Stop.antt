-- LI: a location on the way of a journey, its columns, and the reasons to refuse one.
use Rattle.std.specs.Prelude.{ℕ, List, [], ◌∷◌, codes, Option}
use Rattle.cif_columns.specs.{Activities.codes_in, Text.text_of, declared.refusal.Refusal.Refusal}
use Rattle.cif_columns.specs.Field.{Row, row, AllStandIn, columns, exactly, text, activity_codes, working_time, public_time, spare}
use Rattle.cif_records.specs.Checks.{first_of, identity_refusal, public_time_refusal, work_time_refusal}
use Rattle.cif_records.specs.declared.stop.Stop.{Stop}

-- the columns of a location on the way
abbrev pub stop_table : Stop → List Row
stop_table r =
    row 1 2 (exactly (codes "LI"))
    ∷ row 3 9 (text r.location)
    ∷ row 10 10 (text r.suffix)
    ∷ row 11 15 (working_time r.arrival)
    ∷ row 16 20 (working_time r.departure)
    ∷ row 21 25 (working_time r.pass)
    ∷ row 26 29 (public_time r.public_arrival)
    ∷ row 30 33 (public_time r.public_departure)
    ∷ row 34 36 (text r.platform)
    ∷ row 37 39 (text r.line)
    ∷ row 40 42 (text r.path)
    ∷ row 43 54 (activity_codes r.activities)
    ∷ row 55 56 (text r.engineering)
    ∷ row 57 58 (text r.pathing)
    ∷ row 59 60 (text r.performance)
    ∷ row 61 80 spare
    ∷ []

-- the line spells it: each of its values stands in its columns
abbrev pub SpellsStop : List ℕ → Stop → Type 0
SpellsStop line r = AllStandIn line (stop_table r)

-- the location on the way that a line spells, if it spells one: what stands in its columns
abbrev pub stop_in : List ℕ → Stop
stop_in line = record {
  location = text_of (columns 3 9 line);
  suffix = text_of (columns 10 10 line);
  arrival = columns 11 15 line;
  departure = columns 16 20 line;
  pass = columns 21 25 line;
  public_arrival = columns 26 29 line;
  public_departure = columns 30 33 line;
  platform = text_of (columns 34 36 line);
  line = text_of (columns 37 39 line);
  path = text_of (columns 40 42 line);
  activities = codes_in (columns 43 54 line);
  engineering = text_of (columns 55 56 line);
  pathing = text_of (columns 57 58 line);
  performance = text_of (columns 59 60 line);
}

-- the first reason to refuse a line as a location on the way
unfoldable pub stop_refusal : List ℕ → Option Refusal
stop_refusal line = first_of (
    identity_refusal (codes "LI") line
    ∷ work_time_refusal (columns 11 15 line)
    ∷ work_time_refusal (columns 16 20 line)
    ∷ work_time_refusal (columns 21 25 line)
    ∷ public_time_refusal (columns 26 29 line)
    ∷ public_time_refusal (columns 30 33 line)
    ∷ [])
