-- The numbers, names and texts of faults.
use Rattle.std.specs.Prelude.{ℕ, List, ◌++◌, codes}
use Rattle.cif_columns.specs.{LineFault.text_of as line_fault_text, Refusal.name_of as refusal_name, Refusal.number_of as refusal_number}
use Rattle.cif_columns.specs.declared.refusal.LineFault.{LineFault}
use Rattle.cif_columns.specs.declared.refusal.LineFault.TheVariants as line_fault
use Rattle.cif_extract.specs.{Clash.clash_text, declared.fault.Fault.Fault, declared.fault.Fault.TheVariants.WindowsDiffer}
use Rattle.cif_extract.specs.{declared.fault.Fault.TheVariants.Write}
use Rattle.cif_extract.specs.declared.fault.Fault.TheVariants.{Ambiguous, Memory, OutsideWindow, Read, Refused, WindowReversed}

-- the number of a fault
abbrev pub number_of : Fault → ℕ
number_of (Refused line why) = refusal_number why
number_of (Ambiguous clash) = 15
number_of WindowsDiffer = 16
number_of OutsideWindow = 17
number_of Read = 18
number_of Write = 19
number_of Memory = 20
number_of WindowReversed = 21

-- the name of a fault
abbrev pub name_of : Fault → List ℕ
name_of (Refused line why) = refusal_name why
name_of (Ambiguous clash) = codes "Ambiguous"
name_of WindowsDiffer = codes "WindowsDiffer"
name_of OutsideWindow = codes "OutsideWindow"
name_of WindowReversed = codes "WindowReversed"
name_of Read = codes "ReadFault"
name_of Write = codes "WriteFault"
name_of Memory = codes "Memory"

-- what a fault is: its name, behind the line that is refused, or before what clashes
unfoldable pub fault_text : Fault → List ℕ
fault_text (Refused line why) = line_fault_text (line_fault.Refused line why)
fault_text (Ambiguous clash) = name_of (Ambiguous clash) ++ codes ": " ++ clash_text clash
fault_text fault = name_of fault

-- a fault of the line reader as one of the extract
abbrev pub of_line_fault : LineFault → Fault
of_line_fault (line_fault.Refused line why) = Refused line why
of_line_fault line_fault.Read = Read
