-- The lines that name faults.
use Rattle.std.specs.Prelude.{ℕ, List, ◌++◌, codes}
use Rattle.cif_extract.specs.{Fault.fault_text, declared.fault.Fault.Fault}

-- the line that names a fault, with its line feed
unfoldable pub fault_line : Fault → List ℕ
fault_line fault = codes "cif: " ++ fault_text fault ++ codes "\n"
