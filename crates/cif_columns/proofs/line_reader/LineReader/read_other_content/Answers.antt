-- The content is a comment, a line, or refused.
use Rattle.cif_columns.proofs.Names.{Faulted, ap, is_comment, line_of, refl, sym, ◌∙◌}
use Rattle.cif_columns.proofs.LineAnswers.{line_ok, makes_line, no_comment, passes_comment, refuses_content}
use Rattle.cif_columns.proofs.line_reader.LineReader.read_other_content.Goals as goal

pub returns-then-is_comment : goal.returns-then-is_comment
returns-then-is_comment g c =
    let (reading, next, past_now) = rw c.in-Ok-true.field-0-test at c.in-Ok-true.ensures in
    passes_comment reading next past_now
    (ap is_comment (sym c.content-content.ensures) ∙ sym c.is_comment.ensures ∙ c.if-is_comment.true)

pub returns-in-Ok : goal.returns-in-Ok
returns-in-Ok g c =
    let (reading, next, past_now) = rw c.in-Ok-true.field-0-test at c.in-Ok-true.ensures in
    let content = sym c.content-content.ensures in
    let is = ap line_of content ∙ sym c.line_of.ensures ∙ c.in-Ok.is in (
      makes_line reading next past_now c.in-Ok.next is,
      ap is_comment (sym (line_ok _ c.in-Ok.next is).0 ∙ content) ∙ sym c.is_comment.ensures ∙ c.if-is_comment.false,
    )

pub returns-in-Err-line_of : goal.returns-in-Err-line_of
returns-in-Err-line_of g c =
    let (reading, next, past_now) = rw c.in-Ok-true.field-0-test at c.in-Ok-true.ensures in
    let content = sym c.content-content.ensures in
    let refused = c.refuse.ensures in
    rw refused.fault (
      refuses_content reading _ next c.in-Err-line_of.why (ap line_of content ∙ sym c.line_of.ensures ∙ c.in-Err-line_of.is)
          refused.limit refused.given (refused.past ∙ ap Faulted refused.fault),
      λ _. no_comment c.args.self.now _ next (ap is_comment content ∙ sym c.is_comment.ensures ∙ c.if-is_comment.false),
    )

pub returns-in-Err : goal.returns-in-Err
returns-in-Err g c = (c.in-Err.ensures.0, c.in-Err.ensures.1 refl)
