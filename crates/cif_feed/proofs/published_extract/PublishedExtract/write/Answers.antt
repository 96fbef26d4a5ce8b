-- The texts are that of the published extract.
use Rattle.cif_feed.proofs.{Names.Writes, Names.published_parts, Names.subst, WrittenItems.published-whole}
use Rattle.cif_feed.proofs.published_extract.PublishedExtract.write.Goals as goal

pub returns : goal.returns
returns g c =
    subst (λ text. Writes g.W.Write.contents g.W.WriteDevice.write_errors text c.args.sink.now c.write_records.new.sink
    c.write_records.result)
    (published-whole (published_parts c.args.self.now))
    (rw (c.as_slice.ensures.value, c.as_slice-2.ensures.value, c.as_slice-3.ensures.value) at c.write_records.ensures)
