-- The first among the calls that are left is the first of all.
use Rattle.cif_views.proofs.Names.{drop, ◌≡◌}
use Rattle.cif_views.specs.Steps.Boards.{goal_in}
use Rattle.cif_views.proofs.boards.first_goal.Given as goal

abbrev pub invariant-loop-stop : goal.invariant-loop-stop
invariant-loop-stop l = goal_in l.goal (drop l.stop-index l.later) ≡ goal_in l.goal l.later
