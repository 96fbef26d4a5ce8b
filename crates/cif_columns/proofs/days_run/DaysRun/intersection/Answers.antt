use Rattle.cif_columns.proofs.{Flags.runs-and, Names.sym}
use Rattle.cif_columns.proofs.days_run.DaysRun.intersection.Goals as goal

pub returns-clause-runs : goal.returns-clause-runs
returns-clause-runs c w = rw (sym c.self.view_is, sym c.other.view_is) (runs-and c.self.inside.bits c.other.inside.bits w)
