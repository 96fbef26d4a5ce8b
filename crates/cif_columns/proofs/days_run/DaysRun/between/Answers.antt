use Rattle.cif_columns.proofs.Flags.{powers, runs-between}
use Rattle.cif_columns.proofs.days_run.DaysRun.between.Goals as goal

pub overflow_sub-result : goal.overflow_sub-result
overflow_sub-result c = powers c.args.from c.args.to c.requires.in_order c.requires.within

pub returns : goal.returns
returns c w = runs-between c.args.from c.args.to w c.requires.in_order c.requires.within
