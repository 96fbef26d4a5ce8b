-- Each written line spells its record, and its mark is what was written over it.
use Rattle.cif_feed.proofs.{FittingUpdates.updated_fits, Names.all_codes}
use Rattle.cif_feed.proofs.PublishedTexts.{may_any, published-lines, published-spells, said_fits}
use Rattle.cif_feed.proofs.laws.published_texts_spell_their_extracts.Goals as goal

pub returns-clause-fits : goal.returns-clause-fits
returns-clause-fits c = said_fits

pub returns-clause-spells : goal.returns-clause-spells
returns-clause-spells c = λ allowed max p fits may within. published-spells allowed p fits may max within

pub returns-clause-lines : goal.returns-clause-lines
returns-clause-lines c = λ p fits. published-lines all_codes p fits (may_any p.schedules)

pub returns-clause-updated : goal.returns-clause-updated
returns-clause-updated c = updated_fits
