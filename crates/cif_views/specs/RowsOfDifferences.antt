-- Each difference has a row in their table.
use Rattle.std.specs.Prelude.{◌≡◌, ◌≢◌, ℕ, ◌<◌, Contains, List, [], ◌∷◌, length}
use Rattle.std.specs.List.{flat_map}
use Rattle.cif_canon.specs.{Differences.DifferencesParts, Lines.ScheduleLines}
use Rattle.cif_rows.specs.Row.{Value, cell_of}
use Rattle.cif_canon.specs.Pairs.{Listed, association_lines, schedule_lines}
use Rattle.cif_views.specs.DifferenceTable.{association_differences, differing_row, differing_rows, schedule_differences}
use Rattle.cif_views.specs.Tables.{TableFields}

-- a row is there
abbrev pub HasRow : List (List Value) → Type 0
HasRow rows = 0 < length rows

-- each record of one side alone, and each pair of records has one; each location has one by definition
pub record HaveRows (d : DifferencesParts) : Type 0 where
  pub associations : (l : Listed (List ℕ)) → Contains (association_lines d) l → HasRow (association_differences l)
  pub schedules : (l : Listed ScheduleLines) → Contains (schedule_lines d) l → HasRow (schedule_differences l)

-- A field of a pair has its row exactly if its cells differ, and none if they are the same.
pub record IsRowOfField (start : List Value) (left right : List ℕ) (name : List ℕ) (field : List ℕ → Value) (row : List (List Value)) : Type 0 where
  pub differs : cell_of (field left) ≢ cell_of (field right) → row ≡ differing_row start name (field left) (field right) ∷ []
  pub same : cell_of (field left) ≡ cell_of (field right) → row ≡ []

-- So the rows of a pair go field by field.
pub record AreRowsOfFields (start : List Value) (fields : TableFields (List ℕ)) (left right : List ℕ) : Type 0 where
  pub rows : List ℕ × (List ℕ → Value) → List (List Value)
  pub each : (f : List ℕ × (List ℕ → Value)) → IsRowOfField start left right f.0 f.1 (rows f)
  pub all : differing_rows start fields left right ≡ flat_map rows fields
