-- A failure is counted.
use Rattle.cif_columns.proofs.{Names.arith, Names.common_steps}
use Rattle.cif_columns.proofs.trials.TrialReaderRead.read.Goals as goal

pub returns-in-Fail-clause-errors : goal.returns-in-Fail-clause-errors
returns-in-Fail-clause-errors c = grind (arith, common_steps)
