-- Laws of all extracts: by their kinds, records are parted in one way only (`OneExtract`).
use Rattle.cif_extract.proofs.{LayoutLaws.own_are, Names.own_layouts, OneExtract.one_extract, SpelledBytes.one_spelled}
use Rattle.cif_extract.proofs.laws.bytes_spell_one_extract.Goals as goal

pub returns-clause-lines : goal.returns-clause-lines
returns-clause-lines c = one_extract own_layouts own_are

pub returns-clause-bytes : goal.returns-clause-bytes
returns-clause-bytes c = one_spelled
