-- The text is that of the line with those that were taken, and of the others.
use Rattle.cif_feed.proofs.Names.{HasFailed, HasWritten, List, ap, drop, lines_text, subst, writes_err, ℕ, ◌++◌, ◌∙◌}
use Rattle.cif_extract.proofs.WrittenLines.{first_failed, second_writes}
use Rattle.cif_feed.proofs.written.write_with_body.Goals as goal

pub returns-in_err-write_all : goal.returns-in_err-write_all
returns-in_err-write_all g c =
    let a = c.args in
    let text = c.text.ensures ∙ ap (λ (t : List ℕ × List ℕ). t.0 ++ t.1) c.set_first.ensures in
    let others = c.take-rest.ensures ∙ ap lines_text c.further_lines.ensures in
    writes_err _ _ _ _ _ c.from_residual.result c.from_residual.ensures.0
    (first_failed a.basic.now c.take-rest.new.self.1 (drop 1 a.body.now) c.take-rest.result others _ _ _ _
    (subst (λ t. HasFailed g.W.Write.contents g.W.WriteDevice.write_errors t a.sink.now c.write_all.new.self) text
    c.in_err-write_all.ensures))

pub returns : goal.returns
returns g c =
    let a = c.args in
    let text = c.text.ensures ∙ ap (λ (t : List ℕ × List ℕ). t.0 ++ t.1) c.set_first.ensures in
    let others = c.take-rest.ensures ∙ ap lines_text c.further_lines.ensures in
    second_writes a.basic.now c.take-rest.new.self.1 (drop 1 a.body.now) c.take-rest.result others _ _ _ _ _ _
    (subst (λ t. HasWritten g.W.Write.contents g.W.WriteDevice.write_errors t a.sink.now c.write_all.new.self) text
    c.in_ok-write_all.ensures) c.write_lines.ensures
