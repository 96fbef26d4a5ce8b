-- The numbers, names and texts of the faults of feeds.
use Rattle.std.specs.Prelude.{ℕ, List, ◌++◌, codes, decimal}
use Rattle.cif_extract.specs.Fault.{fault_text as extract_text, name_of as extract_name, number_of as extract_number}
use Rattle.cif_feed.specs.{declared.feed_fault.FeedFault.FeedFault, declared.feed_fault.FeedFault.TheVariants.OutOfSequence}
use Rattle.cif_feed.specs.declared.feed_fault.FeedFault.TheVariants.{AlreadyThere, BadHoliday, BadTransaction, Extract, NotThere, NotUpdate}

-- the number of a fault
abbrev pub number_of : FeedFault → ℕ
number_of (Extract fault) = extract_number fault
number_of (NotUpdate line) = 22
number_of (BadTransaction line) = 23
number_of (NotThere line) = 24
number_of (AlreadyThere line) = 25
number_of (BadHoliday line) = 26
number_of (OutOfSequence line) = 27

-- its name
abbrev pub name_of : FeedFault → List ℕ
name_of (Extract fault) = extract_name fault
name_of (NotUpdate line) = codes "NotUpdate"
name_of (BadTransaction line) = codes "BadTransaction"
name_of (NotThere line) = codes "NotThere"
name_of (AlreadyThere line) = codes "AlreadyThere"
name_of (BadHoliday line) = codes "BadHoliday"
name_of (OutOfSequence line) = codes "OutOfSequence"

-- a line, counted from 1, and a name
unfoldable pub line_text : ℕ → List ℕ → List ℕ
line_text line name = codes "line " ++ decimal line ++ codes ": " ++ name

-- what a fault is: its name, behind the line that is refused
unfoldable pub fault_text : FeedFault → List ℕ
fault_text (Extract fault) = extract_text fault
fault_text (NotUpdate line) = line_text line (codes "NotUpdate")
fault_text (BadTransaction line) = line_text line (codes "BadTransaction")
fault_text (NotThere line) = line_text line (codes "NotThere")
fault_text (AlreadyThere line) = line_text line (codes "AlreadyThere")
fault_text (BadHoliday line) = codes "holidays: " ++ line_text line (codes "BadHoliday")
fault_text (OutOfSequence line) = line_text line (codes "OutOfSequence")
