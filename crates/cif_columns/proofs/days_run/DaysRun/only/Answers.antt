use Rattle.cif_columns.proofs.Flags.{only-within, runs-only}
use Rattle.cif_columns.proofs.days_run.DaysRun.only.Goals as goal

pub invariant_of-result : goal.invariant_of-result
invariant_of-result c = only-within c.args.weekday c.requires

pub returns-clause-runs : goal.returns-clause-runs
returns-clause-runs c w = runs-only c.args.weekday w c.requires
