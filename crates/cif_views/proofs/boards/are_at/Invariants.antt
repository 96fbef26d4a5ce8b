-- What is left is at one of the locations exactly if all lines are.
use Rattle.cif_views.proofs.Names.{length, ◌≡◌}
use Rattle.std.specs.List.{list_any}
use Rattle.cif_columns.specs.Field.{columns_from}
use Rattle.cif_views.specs.Steps.Boards.{is_at}
use Rattle.cif_views.proofs.boards.are_at.Given as goal

abbrev pub invariant-loop-lines : goal.invariant-loop-lines
invariant-loop-lines l =
    list_any (λ line. is_at l.place (columns_from 3 7 line)) l.lines ≡ list_any (λ line. is_at l.place (columns_from 3 7 line)) l.initial.lines

abbrev pub decreases-loop-lines : goal.decreases-loop-lines
decreases-loop-lines l = length l.lines
