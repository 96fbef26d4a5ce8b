-- The input spells one association, and the canonical bytes the one that is made of it (`example-is`).
use Rattle.cif_laws.proofs.ExampleMeaning.{example-is}
use Rattle.cif_laws.proofs.canonical.an_input_has_its_canonical_bytes.Goals as goal

pub returns : goal.returns
returns c = example-is
