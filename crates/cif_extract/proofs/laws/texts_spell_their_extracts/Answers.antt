-- Laws of all extracts, by induction over tables: what lines spell fits, and the text of what fits spells it (`PlainTexts`).
use Rattle.cif_extract.proofs.{Names.contents_of, PlainTexts.spelled-fits, PlainTexts.text-lines, PlainTexts.text-spells}
use Rattle.cif_extract.proofs.laws.texts_spell_their_extracts.Goals as goal

pub returns-clause-fits : goal.returns-clause-fits
returns-clause-fits c bytes x s = spelled-fits (contents_of bytes) x s.are_lines s.spelled

pub returns-clause-spells : goal.returns-clause-spells
returns-clause-spells c = text-spells

pub returns-clause-lines : goal.returns-clause-lines
returns-clause-lines c = text-lines
