-- Only terms were read: the BS that the line spells has the detail that stands there (`detail_there`).
use Rattle.cif_extract.proofs.Names.{detail_there}
use Rattle.cif_records.specs.declared.record.Record.TheVariants as of
use Rattle.cif_extract.proofs.reading.Reading.take_basic.Goals as goal

pub returns : goal.returns
returns c =
    let (fine, there) = c.in_ok-read.ensures in
    let b = there.basic in
    let is = c.in_ok-put_basic.ensures b there.terms (detail_there c.args.line.now b there.spells) in
    (fine, (of.Basic b, there.spells, is.0, is.1))
