-- Those so far are found, and the rest are left.
use Rattle.cif_canon.proofs.Names.{AreSifting, length, ◌+◌}
use Rattle.cif_canon.proofs.tiplocs.different_tiplocs.Given as goal

abbrev pub invariant-loop-order : goal.invariant-loop-order
invariant-loop-order l = AreSifting l.initial.lefts l.initial.rights l.lefts l.rights l.found.items

abbrev pub decreases-loop-order : goal.decreases-loop-order
decreases-loop-order l = length l.lefts + length l.rights
