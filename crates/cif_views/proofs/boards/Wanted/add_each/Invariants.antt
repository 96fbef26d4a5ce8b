-- The rows so far, and those of the calls that are left, are all.
use Rattle.cif_views.proofs.Names.{length, ◌++◌, ◌≡◌}
use Rattle.cif_views.specs.Steps.Boards.{rows_from}
use Rattle.cif_views.proofs.boards.Wanted.add_each.Given as goal

abbrev pub invariant-loop-rest : goal.invariant-loop-rest
invariant-loop-rest l =
    l.rows.items ++ rows_from l.self l.schedule l.train l.rest ≡ l.fn.rows.items ++ rows_from l.self l.schedule l.train l.fn.stops

abbrev pub decreases-loop-rest : goal.decreases-loop-rest
decreases-loop-rest l = length l.rest
