-- Differences are in order, and of records in order the function takes the pairs (`are-by_pairs`).
use Rattle.cif_canon.proofs.ByPairs.{associations-by_pairs, schedules-by_pairs}
use Rattle.cif_canon.proofs.laws.differences_are_by_pairs.Goals as goal

pub returns-clause-associations : goal.returns-clause-associations
returns-clause-associations c = associations-by_pairs

pub returns-clause-schedules : goal.returns-clause-schedules
returns-clause-schedules c = schedules-by_pairs
