-- By the format.
use Rattle.cif_commands.proofs.Names.{⊎_elim}
use Rattle.cif_commands.proofs.answers.write_calendar.Goals as goal

pub returns-in-Text-clause-view : goal.returns-in-Text-clause-view
returns-in-Text-clause-view g c = rw c.in-Text.is c.week_calendar.ensures.view

pub returns-in-Tsv : goal.returns-in-Tsv
returns-in-Tsv g c =
    ⊎_elim (λ is. rw is (rw is at c.date_calendar.ensures)) (λ is. rw is (rw is at c.date_calendar.ensures)) c.in-Tsv.is
