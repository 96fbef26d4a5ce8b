-- A board is of what runs, and of locations by what they are (`SameBoards`).
use Rattle.cif_canon.proofs.SameExtracts.{same-sym}
use Rattle.cif_views.proofs.SameBoards.{board-same}
use Rattle.cif_views.proofs.laws.boards_of_equal_meanings.Goals as goal

pub returns : goal.returns
returns c = λ x y format board text same clear_x clear_y. (
  board-same x y same clear_y format board text,
  board-same y x (same-sym x y same) clear_x format board text,
)
