-- The statuses that the program exits with, and what it tells of a fault.
use Rattle.std.specs.Prelude.{Bool, Err, List, Ok, Option, Result, false, true, ℕ, ◌≡◌}
use Rattle.cif_columns.specs.{Sink.Writes, declared.sink.Sink.Sink, declared.sink.WriteFault.WriteFault}
use Rattle.cif_extract.specs.declared.{fault.Fault.Fault, fault.Fault.TheVariants.WindowsDiffer, fault.Fault.TheVariants.Write}
use Rattle.cif_extract.specs.declared.fault.Fault.TheVariants.{Ambiguous, Memory, OutsideWindow, Read, Refused, WindowReversed}
use Rattle.cif_canon.{specs.Report.fault_line, specs.declared.comparison.Comparison.Comparison}
use Rattle.cif_canon.specs.declared.comparison.Comparison.TheVariants.{Association, Same, Tiploc, Train}

-- a refusal of the input is 3; a failed device, and memory that ran out, is 4
abbrev pub status_of : Fault → ℕ
status_of (Refused line why) = 3
status_of (Ambiguous clash) = 3
status_of WindowsDiffer = 3
status_of OutsideWindow = 3
status_of WindowReversed = 3
status_of Read = 4
status_of Write = 4
status_of Memory = 4

-- no difference is 0, and a difference is 1
abbrev pub outcome_of : Comparison → ℕ
outcome_of Same = 0
outcome_of (Tiploc tiploc) = 1
outcome_of (Association key day) = 1
outcome_of (Train uid day) = 1

-- where nothing is listed it is 0, and else 1
abbrev pub listed_status : Bool → ℕ
listed_status true = 0
listed_status false = 1

-- the status that an answer ends with: its own, or that of its fault
abbrev pub end_status : Result ℕ Fault → ℕ
end_status (Ok status) = status
end_status (Err fault) = status_of fault

-- what an answer owes the sink of faults: the line of its fault, as far as it could be written, and else nothing
abbrev pub ReportsFault : {W : Type 0} → (W → Option (List ℕ)) → (W → Option ℕ) → Result ℕ Fault → Sink W → Sink W → Type 0
ReportsFault contents errors (Ok status) old new = new ≡ old
ReportsFault contents errors (Err fault) old new = (reported : Result (Unit {0}) WriteFault) × Writes contents errors (fault_line fault) old
    new reported
