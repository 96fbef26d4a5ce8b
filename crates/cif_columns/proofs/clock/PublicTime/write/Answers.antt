-- The type keeps that its columns pass the test: `public-stands` has the form from it, and `public_printable` its bytes.
use Rattle.cif_columns.proofs.Times.{public-stands, public_printable}
use Rattle.cif_columns.proofs.clock.PublicTime.write.Goals as goal

pub returns-clause-stands : goal.returns-clause-stands
returns-clause-stands c = record { same = c.self.view_is; form = (public-stands _ c.self.told c.self.invariant).form }

pub returns-clause-printable : goal.returns-clause-printable
returns-clause-printable c = public_printable _ (public-stands _ c.self.told c.self.invariant).form
