-- The record that the line spells has to be named: the trailer, which changes nothing but the place.
use Rattle.cif_extract.proofs.Names.{refl}
use Rattle.cif_records.specs.declared.record.Record.TheVariants as of
use Rattle.cif_extract.proofs.reading.Reading.take_trailer.Goals as goal

pub returns : goal.returns
returns c = (c.in_ok-read.ensures.0, (of.Trailer, c.in_ok-read.ensures.1, tt, refl))
