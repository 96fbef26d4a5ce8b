-- The text is that of the BS with the lines that were taken, and of the others.
use Rattle.cif_extract.proofs.Names.{BodyLines, HasFailed, HasWritten, List, Writes, ap, drop, lines_text, subst, writes_err, ℕ, ◌++◌, ◌∙◌}
use Rattle.cif_extract.{proofs.Names.◌∷◌, proofs.WrittenLines.first_failed, proofs.WrittenLines.second_writes}
use Rattle.cif_extract.proofs.writing.ScheduleWriter.write_with_basic.Goals as goal

pub returns-in_err-write_all-clause-writes : goal.returns-in_err-write_all-clause-writes
returns-in_err-write_all-clause-writes g c =
    let a = c.args in
    let w = c.self.inside in
    let text = c.text.ensures ∙ ap (λ (t : List ℕ × List ℕ). t.0 ++ t.1) c.set_first.ensures in
    subst (λ (p : BodyLines). Writes g.W.Write.contents g.W.WriteDevice.write_errors
    (lines_text (a.basic.now ∷ drop 1 p)) a.sink.now c.write_all.new.self c.from_residual.result)
    c.self.view_is
    (writes_err _ _ _ _ _ c.from_residual.result c.from_residual.ensures.0
    (first_failed a.basic.now w.texts.1 (drop 1 w.body.now) w.rest c.self.invariant _ _ _ _
    (subst (λ t. HasFailed g.W.Write.contents g.W.WriteDevice.write_errors t a.sink.now c.write_all.new.self) text
    c.in_err-write_all.ensures)))

pub returns-clause-writes : goal.returns-clause-writes
returns-clause-writes g c =
    let a = c.args in
    let w = c.self.inside in
    let text = c.text.ensures ∙ ap (λ (t : List ℕ × List ℕ). t.0 ++ t.1) c.set_first.ensures in
    subst (λ (p : BodyLines). Writes g.W.Write.contents g.W.WriteDevice.write_errors
    (lines_text (a.basic.now ∷ drop 1 p)) a.sink.now c.write_lines.new.self c.write_lines.result)
    c.self.view_is
    (second_writes a.basic.now w.texts.1 (drop 1 w.body.now) w.rest c.self.invariant _ _ _ _ _ _
    (subst (λ t. HasWritten g.W.Write.contents g.W.WriteDevice.write_errors t a.sink.now c.write_all.new.self) text
    c.in_ok-write_all.ensures) c.write_lines.ensures)
