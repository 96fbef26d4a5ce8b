use Rattle.cif_columns.proofs.{Flags.same-bits, Names.sym}
use Rattle.cif_columns.proofs.days_run.DaysRun.is.Goals as goal

pub returns : goal.returns
returns c = rw (sym c.self.view_is, sym c.other.view_is) (same-bits _ _ c.self.invariant c.other.invariant)
