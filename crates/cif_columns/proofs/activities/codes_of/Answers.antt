-- Each pair of columns is a code, or it is none.
use Rattle.cif_columns.proofs.Names.{arith, common_steps}
use Rattle.cif_columns.proofs.activities.codes_of.Goals as goal

pub loop-rest-preserved : goal.loop-rest-preserved
loop-rest-preserved c = record { all = grind (arith, common_steps); room = grind (arith, common_steps) }
