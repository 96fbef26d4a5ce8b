-- Whatever tables the lines kept when the loop began, they keep these and then those of the calls so far.
use Rattle.cif_extract.proofs.Names.{KeepMore, call_record, map, record_table, take}
use Rattle.cif_extract.proofs.extract.push_parts.Given as goal

-- the lines of the calls so far stand behind those that were there
abbrev pub invariant-loop-call : goal.invariant-loop-call
invariant-loop-call l = KeepMore l.initial.lines l.lines (map record_table (map call_record (take l.call-index l.calls)))
