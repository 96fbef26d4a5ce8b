-- A second line marked `BX` spells the further details, and no other is read as such (`extra_read`).
use Rattle.cif_extract.proofs.{Bodies.extra_read, Names.◌∙◌}
use Rattle.cif_extract.proofs.extract.Body.extra.Goals as goal

pub returns : goal.returns
returns c =
    c.ok.ensures.value ∙ extra_read c.args.self.now c.second_line.result c.read.result c.second_line.ensures.keep
    c.second_line.ensures.second c.read.ensures.exact c.read.ensures.only
