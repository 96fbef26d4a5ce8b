-- The place is the one after its record already: what is kept then is the step (`taken_further`).
use Rattle.cif_extract.proofs.{Names.progress_of, TakenLines.taken_further}
use Rattle.cif_extract.proofs.reading.Reading.take_further.Goals as goal

pub returns : goal.returns
returns c =
    taken_further (progress_of c.args.self.now) c.args.line.now c.args.kind (progress_of c.keep.new.self) c.keep.result c.requires.kind
    c.requires.further (rw c.after_further-self.ensures at c.keep.ensures)
