-- The content is a line, or refused.
use Rattle.cif_columns.proofs.Names.{Faulted, ap, line_of, sym, ◌∙◌}
use Rattle.cif_columns.proofs.LineAnswers.{makes_line, refuses_content}
use Rattle.cif_columns.proofs.line_reader.LineReader.read_other_line.Goals as goal

pub returns-in-Ok : goal.returns-in-Ok
returns-in-Ok g c =
    let (reading, next, past_now) = rw c.in-Ok-true.field-0-test at c.in-Ok-true.ensures in
    makes_line reading next past_now c.in-Ok.next (ap line_of (sym c.content.ensures) ∙ sym c.line_of.ensures ∙ c.in-Ok.is)

pub returns-in-Err : goal.returns-in-Err
returns-in-Err g c =
    let (reading, next, past_now) = rw c.in-Ok-true.field-0-test at c.in-Ok-true.ensures in
    let refused = c.refuse.ensures in
    rw refused.fault
    (refuses_content reading _ next c.in-Err.why (ap line_of (sym c.content.ensures) ∙ sym c.line_of.ensures ∙ c.in-Err.is) refused.limit
    refused.given (refused.past ∙ ap Faulted refused.fault))
