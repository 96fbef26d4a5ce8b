-- What is made of the wider window, with the header of the narrower one, says the same (`narrows-alike`).
use Rattle.cif_laws.proofs.NarrowedCanon.{narrows-alike}
use Rattle.cif_laws.proofs.canonical.canonical_extracts_narrow_as_their_inputs.Goals as goal

pub returns : goal.returns
returns c = narrows-alike
