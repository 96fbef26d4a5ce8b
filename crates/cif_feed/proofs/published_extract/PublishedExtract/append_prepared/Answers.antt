-- The prepared extract whose text isn't written whole.
use Rattle.cif_feed.proofs.Names.{Extract}
use Rattle.cif_extract.{proofs.ReadCalls.at-fault, specs.declared.fault.Fault.TheVariants.Write}
use Rattle.cif_feed.proofs.published_extract.PublishedExtract.append_prepared.Goals as goal

pub returns-in_err-write : goal.returns-in_err-write
returns-in_err-write g c =
    let handed = c.from_residual-in_err-write in
    rw (at-fault handed.result (Extract Write) handed.ensures.1)
    (c.in_ok-prepared.prepared, c.in_ok-prepared.dropped, c.in_ok-prepared.ensures, c.in_err-write.ensures)

pub returns : goal.returns
returns g c = (c.in_ok-prepared.prepared, c.in_ok-prepared.ensures, c.in_ok-write.ensures)
