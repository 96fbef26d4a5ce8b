-- The rests have the same places exactly if all have.
use Rattle.cif_views.proofs.Names.{length, same_places, ◌≡◌}
use Rattle.cif_views.proofs.difference_table.have_same_places.Given as goal

abbrev pub invariant-loop-lefts : goal.invariant-loop-lefts
invariant-loop-lefts l = same_places l.left l.right ≡ same_places l.lefts l.rights

abbrev pub decreases-loop-lefts : goal.decreases-loop-lefts
decreases-loop-lefts l = length l.lefts
