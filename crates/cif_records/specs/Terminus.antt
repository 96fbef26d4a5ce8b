-- LT: the last location of a journey, its columns, and the reasons to refuse one.
use Rattle.std.specs.Prelude.{ℕ, List, [], ◌∷◌, codes, Option}
use Rattle.cif_columns.specs.{Activities.codes_in, Text.text_of, declared.refusal.Refusal.Refusal}
use Rattle.cif_columns.specs.Field.{Row, row, AllStandIn, columns, exactly, text, activity_codes, working_time, public_time, spare}
use Rattle.cif_records.specs.Checks.{first_of, identity_refusal, public_time_refusal, work_time_refusal}
use Rattle.cif_records.specs.declared.terminus.Terminus.{Terminus}

-- the columns of a last location
abbrev pub terminus_table : Terminus → List Row
terminus_table r =
    row 1 2 (exactly (codes "LT"))
    ∷ row 3 9 (text r.location)
    ∷ row 10 10 (text r.suffix)
    ∷ row 11 15 (working_time r.arrival)
    ∷ row 16 19 (public_time r.public_arrival)
    ∷ row 20 22 (text r.platform)
    ∷ row 23 25 (text r.path)
    ∷ row 26 37 (activity_codes r.activities)
    ∷ row 38 80 spare
    ∷ []

-- the line spells it: each of its values stands in its columns
abbrev pub SpellsTerminus : List ℕ → Terminus → Type 0
SpellsTerminus line r = AllStandIn line (terminus_table r)

-- the last location that a line spells, if it spells one: what stands in its columns
abbrev pub terminus_in : List ℕ → Terminus
terminus_in line = record {
  location = text_of (columns 3 9 line);
  suffix = text_of (columns 10 10 line);
  arrival = columns 11 15 line;
  public_arrival = columns 16 19 line;
  platform = text_of (columns 20 22 line);
  path = text_of (columns 23 25 line);
  activities = codes_in (columns 26 37 line);
}

-- the first reason to refuse a line as a last location
unfoldable pub terminus_refusal : List ℕ → Option Refusal
terminus_refusal line = first_of (
    identity_refusal (codes "LT") line
    ∷ work_time_refusal (columns 11 15 line)
    ∷ public_time_refusal (columns 16 19 line)
    ∷ [])
