-- The records are those of the published extract, on other days.
use Rattle.cif_feed.proofs.{Names.text-spells, PreparedFits.prepared_fits}
use Rattle.cif_feed.proofs.laws.prepared_texts_spell_extracts.Goals as goal

pub returns-clause-fits : goal.returns-clause-fits
returns-clause-fits c = prepared_fits

pub returns-clause-spells : goal.returns-clause-spells
returns-clause-spells c = λ h drops p x fits is. text-spells x (prepared_fits h drops p x fits is)
