-- What is accepted isn't blamed (`blames-none`).
use Rattle.cif_canon.proofs.Normalising.{blames-none}
use Rattle.cif_canon.proofs.laws.accepted_inputs_have_canonical_bytes.Goals as goal

pub returns : goal.returns
returns c max asked input after x fault accepted blamed = blames-none max asked input after x accepted fault blamed
