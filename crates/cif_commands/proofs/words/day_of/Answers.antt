-- The word that names no day is the one of this id.
use Rattle.cif_commands.proofs.Names.{NamesNoDay, refl, subst}
use Rattle.cif_commands.proofs.words.day_of.Goals as goal

pub returns-in-None-clause-err : goal.returns-in-None-clause-err
returns-in-None-clause-err c = (refl, subst NamesNoDay c.required_word.ensures c.in-None.ensures)
