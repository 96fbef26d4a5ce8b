-- The type keeps that its columns pass the test: `work-stands` has the form from it, and `work_printable` its bytes.
use Rattle.cif_columns.proofs.Times.{work-stands, work_printable}
use Rattle.cif_columns.proofs.clock.WorkTime.write.Goals as goal

pub returns-clause-stands : goal.returns-clause-stands
returns-clause-stands c = record { same = c.self.view_is; form = (work-stands _ c.self.told c.self.invariant).form }

pub returns-clause-printable : goal.returns-clause-printable
returns-clause-printable c = work_printable _ (work-stands _ c.self.told c.self.invariant).form
