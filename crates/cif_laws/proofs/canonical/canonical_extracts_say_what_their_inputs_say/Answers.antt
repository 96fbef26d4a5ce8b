-- What is canonical is accepted again (`says-alike`).
use Rattle.cif_laws.proofs.NarrowedCanon.{says-alike}
use Rattle.cif_laws.proofs.canonical.canonical_extracts_say_what_their_inputs_say.Goals as goal

pub returns-clause-clear : goal.returns-clause-clear
returns-clause-clear c = λ asked input x accepted. accepted.clear

pub returns-clause-same : goal.returns-clause-same
returns-clause-same c = says-alike
