-- The theorem itself (`NormalForms`): canonical extracts that say the same are equal, and are read again from their bytes.
use Rattle.cif_canon.proofs.NormalForms.{its-own, normal-unique, one-accepted, reached}
use Rattle.cif_canon.proofs.laws.canonical_bytes_are_unique.Goals as goal

pub returns-clause-accepted : goal.returns-clause-accepted
returns-clause-accepted c = one-accepted

pub returns-clause-unique : goal.returns-clause-unique
returns-clause-unique c = normal-unique

pub returns-clause-again : goal.returns-clause-again
returns-clause-again c form asked input x bytes a p = its-own form x bytes p asked a.whole a.narrowed

pub returns-clause-forms : goal.returns-clause-forms
returns-clause-forms c form asked input x bytes a p = reached form x bytes p asked a.whole a.narrowed
