-- The rows are those of the schedules so far.
use Rattle.cif_views.proofs.Names.{flat_map, take, ◌≡◌}
use Rattle.cif_views.specs.Steps.Boards.{rows_of}
use Rattle.cif_views.proofs.boards.board_rows.Given as goal

abbrev pub invariant-loop-position : goal.invariant-loop-position
invariant-loop-position l = l.rows.items ≡ flat_map (rows_of l.wanted) (take l.position l.schedules)
