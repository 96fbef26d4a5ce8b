use Rattle.cif_columns.proofs.{Flags.has-runs, Names.sym}
use Rattle.cif_columns.proofs.days_run.DaysRun.has.Goals as goal

pub returns : goal.returns
returns c = rw (sym c.self.view_is) (has-runs c.self.inside.bits c.args.weekday c.requires)
