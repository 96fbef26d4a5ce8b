-- The first line is the plain line of the detail (`first_line`).
use Rattle.cif_extract.proofs.Names.{[], ap, detail_of, detail_table, get_or, plain_line, ◌∙◌}
use Rattle.cif_extract.proofs.Bodies.{first_line}
use Rattle.cif_extract.proofs.extract.Body.detail_line.Goals as goal

pub returns-clause-plain : goal.returns-clause-plain
returns-clause-plain c =
    c.first.ensures ∙ ap (λ lines. get_or lines 0 []) c.as_slice.ensures ∙ (first_line c.self.inside.lines c.self.invariant).1
    ∙ ap (λ lines. plain_line (detail_table (detail_of lines))) c.self.view_is
