use Rattle.cif_columns.proofs.{Flags.runs-or, Names.or_lt, Names.sym}
use Rattle.cif_columns.proofs.days_run.DaysRun.union.Goals as goal

pub returns-clause-runs : goal.returns-clause-runs
returns-clause-runs c w = rw (sym c.self.view_is, sym c.other.view_is) (runs-or c.self.inside.bits c.other.inside.bits w)

pub invariant_of-result : goal.invariant_of-result
invariant_of-result c = or_lt 7 _ _ c.self.invariant c.other.invariant
