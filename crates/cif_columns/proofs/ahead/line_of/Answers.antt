-- Where the bytes are eighty, `line_of-eighty` has the test of them.
use Rattle.cif_columns.proofs.Names.{None, Some, ap, length, line_of, ◌∙◌}
use Rattle.cif_columns.proofs.PrintableBytes.{line_of-eighty}
use Rattle.cif_columns.proofs.ahead.line_of.Goals as goal

pub returns-in-Some-of : goal.returns-in-Some-of
returns-in-Some-of c =
    let chunk = c.in-Some.ensures.cases in
    line_of-eighty (Some c.in-Some-of.line) _ (ap length chunk.same ∙ chunk.long) c.in-Some-of.ensures ∙ ap line_of chunk.same

pub returns-in-None : goal.returns-in-None
returns-in-None c =
    let chunk = c.in-Some.ensures.cases in
    line_of-eighty None _ (ap length chunk.same ∙ chunk.long) c.in-None.ensures ∙ ap line_of chunk.same
