-- `all` is the test of the bytes so far.
use Rattle.cif_columns.proofs.Names.{is_printable, list_all, take, ◌≡◌}
use Rattle.cif_columns.proofs.line.are_printable.Given as goal

abbrev pub invariant-loop-b : goal.invariant-loop-b
invariant-loop-b l = l.all ≡ list_all is_printable (take l.b-index l.bytes)
