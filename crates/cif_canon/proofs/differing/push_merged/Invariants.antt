-- The runs so far are in order, and the rest come after them.
use Rattle.cif_canon.proofs.Names.{AreMerging, length, ◌+◌}
use Rattle.cif_canon.proofs.differing.push_merged.Given as goal

abbrev pub invariant-loop-side : goal.invariant-loop-side
invariant-loop-side l = AreMerging l.left l.right l.lefts l.rights l.initial.found.items l.found.items

abbrev pub decreases-loop-side : goal.decreases-loop-side
decreases-loop-side l = length l.lefts + length l.rights
