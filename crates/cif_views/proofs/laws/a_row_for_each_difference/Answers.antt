-- The bodies of a pair differ, so a cell does (`have-rows`).
use Rattle.cif_views.proofs.RowsOfDifferences.{have-rows, no-row_for-none}
use Rattle.cif_views.proofs.laws.a_row_for_each_difference.Goals as goal

pub returns-clause-rows : goal.returns-clause-rows
returns-clause-rows c = have-rows

pub returns-clause-none : goal.returns-clause-none
returns-clause-none c = no-row_for-none
