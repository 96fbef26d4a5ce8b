-- The columns so far are those of the wide line.
use Rattle.cif_columns.proofs.Names.{length, take, wide, ◌≡◌}
use Rattle.cif_columns.proofs.lines.widened.Given as goal

abbrev pub invariant-loop-i : goal.invariant-loop-i
invariant-loop-i l = (length l.text ≡ 81) × (take l.i l.text ≡ take l.i (wide (take l.count l.columns)))
