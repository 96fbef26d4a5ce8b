-- What an update knows a record by.
use Rattle.std.specs.Prelude.{ℕ, List}
use Rattle.cif_calendar.specs.Ranks.{number_after}
use Rattle.cif_columns.specs.{Field.columns, declared.stp.Stp.Stp}
use Rattle.cif_extract.specs.declared.extract.Schedule.{Schedule}
use Rattle.cif_records.specs.declared.{association.AssocKey.AssocKey, association.Association.Association, tiploc.Tiploc.Tiploc}

-- a location by its TIPLOC, columns 3 to 9 of its line
abbrev pub tiploc_key : Tiploc → List ℕ
tiploc_key t = columns 1 7 t.columns

-- an association by its key, its first day and its letter
abbrev pub association_key : Association → AssocKey × ℕ × Stp
association_key a = (a.key, a.first, a.letter)

-- a schedule by its UID, its first day and its letter
abbrev pub schedule_key : Schedule → List ℕ × ℕ × Stp
schedule_key s = (s.uid, s.first, s.letter)

-- what stands for the key of a schedule where keys are looked up: the columns of the UID come first, as one number
abbrev pub schedule_rank : List ℕ × ℕ × Stp → ℕ × ℕ × Stp × List ℕ
schedule_rank k = (number_after 0 k.0, k.1, k.2, k.0)
