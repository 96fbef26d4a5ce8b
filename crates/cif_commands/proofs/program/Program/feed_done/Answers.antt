-- What is done is this job.
use Rattle.cif_commands.proofs.program.Program.feed_done.Goals as goal

pub returns-in-Prepare : goal.returns-in-Prepare
returns-in-Prepare g c = rw c.in-Prepare.is c.prepared.ensures

pub returns-in-Winners : goal.returns-in-Winners
returns-in-Winners g c = rw c.in-Winners.is c.winners_shown.ensures

pub returns-in-Update : goal.returns-in-Update
returns-in-Update g c = rw c.in-Update.is c.updated.ensures
