-- The detail that is read is what stands in the first line.
use Rattle.cif_extract.proofs.Names.{ap, detail_in, ◌∙◌}
use Rattle.cif_extract.proofs.extract.Body.detail.Goals as goal

pub returns : goal.returns
returns c = c.read.ensures.exact ∙ ap detail_in c.detail_line.ensures.first
