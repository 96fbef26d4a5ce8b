-- The highest bit that is set.
use Rattle.cif_columns.proofs.{Flags.last-of, Flags.some-bit, Names.sym}
use Rattle.cif_columns.proofs.days_run.DaysRun.last.Goals as goal

pub returns-clause-found : goal.returns-clause-found
returns-clause-found c = rw (sym c.self.view_is) (last-of _ (some-bit _ c.if-self-eq0.false) c.self.invariant).1

pub returns-clause-in_range : goal.returns-clause-in_range
returns-clause-in_range c = (last-of _ (some-bit _ c.if-self-eq0.false) c.self.invariant).0
