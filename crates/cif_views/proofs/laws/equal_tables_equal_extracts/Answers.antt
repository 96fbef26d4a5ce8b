-- Equal tables have equal lines (`same-lines`), and what says the same has one canonical extract.
use Rattle.cif_views.proofs.SameTables.{meaning-law, text-law}
use Rattle.cif_views.proofs.laws.equal_tables_equal_extracts.Goals as goal

pub returns-clause-text : goal.returns-clause-text
returns-clause-text c = text-law

pub returns-clause-meaning : goal.returns-clause-meaning
returns-clause-meaning c = meaning-law
