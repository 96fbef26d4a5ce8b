-- The texts are that of the prepared extract.
use Rattle.cif_feed.proofs.Names.{Writes, ap, extract_text, subst, ◌∙◌}
use Rattle.cif_feed.proofs.WrittenItems.{prepared-whole}
use Rattle.cif_feed.proofs.prepare.Prepared.write.Goals as goal

pub returns : goal.returns
returns g c =
    let e = c.self.inside in
    subst (λ text. Writes g.W.Write.contents g.W.WriteDevice.write_errors text c.args.sink.now c.write_records.new.sink
    c.write_records.result)
    (prepared-whole e.published.now e.associations.items e.schedules.items ∙ ap extract_text c.self.view_is)
    (rw (c.as_slice.ensures.value, c.as_slice-2.ensures.value, c.as_slice-3.ensures.value) at c.write_records.ensures)
