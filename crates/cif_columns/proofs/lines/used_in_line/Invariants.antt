-- `count` is that of the columns so far.
use Rattle.cif_columns.proofs.Names.{take, used, ◌≡◌}
use Rattle.cif_columns.proofs.lines.used_in_line.Given as goal

abbrev pub invariant-loop-i : goal.invariant-loop-i
invariant-loop-i l = l.count ≡ used (take l.i l.columns)
