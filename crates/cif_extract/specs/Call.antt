-- What a journey has on its way: the record of a call, and what stands in its line.
use Rattle.std.specs.Prelude.{ℕ, ◌-◌, List, codes, cond, length, take}
use Rattle.std.specs.Str.{bytes_eq}
use Rattle.cif_columns.specs.Field.{columns}
use Rattle.cif_extract.specs.declared.{call.Call.Call, call.Call.TheVariants.At, call.Call.TheVariants.Turn}
use Rattle.cif_records.specs.{Change.change_in, Record.SpellsRecord, Stop.stop_in}
use Rattle.cif_records.specs.declared.{record.Record.Record, record.Record.TheVariants.Change, record.Record.TheVariants.Stop}

-- a call as a record of its kind
abbrev pub call_record : Call → Record
call_record (At stop) = Stop stop
call_record (Turn change) = Change change

-- the call that a line spells, if it spells one: what stands in its columns
abbrev pub call_in : List ℕ → Call
call_in line = cond (bytes_eq (columns 1 2 line) (codes "CR")) (Turn (change_in line)) (At (stop_in line))

-- the line spells some call
abbrev pub SpellsSomeCall : List ℕ → Type 0
SpellsSomeCall line = (call : Call) × SpellsRecord line (call_record call)

-- lines without the last: of a journey, those before its LT
abbrev pub before_last : List (List ℕ) → List (List ℕ)
before_last lines = take (length lines - 1) lines
