-- The text is that of the BS with the lines of the body.
use Rattle.cif_extract.proofs.Names.{BodyLines, P, Some, Writes, ap, basic_rows, detail_of, drop, lines_text, plain_line, schedule_lines}
use Rattle.cif_extract.proofs.Names.{subst, ◌∷◌, ◌≡◌}
use Rattle.cif_extract.proofs.writing.ScheduleWriter.write.Goals as goal

pub returns-clause-writes : goal.returns-clause-writes
unfolding schedule_lines
returns-clause-writes g c =
    let a = c.args in
    let basic = c.permanent_line-basic.result in
    let is = subst (λ (b : BodyLines). basic ≡ plain_line (basic_rows a.uid.now a.first a.last a.days P (Some (detail_of b))))
    c.self.view_is (c.permanent_line-basic.ensures (detail_of c.self.inside.body.now) c.detail_line.ensures.plain) in
    subst (λ text. Writes g.W.Write.contents g.W.WriteDevice.write_errors text a.sink.now c.write_with_basic.new.sink
    c.write_with_basic.result) (ap (λ line. lines_text (line ∷ drop 1 a.self.now)) is) c.write_with_basic.ensures.writes
