-- What is done is the task of the request.
use Rattle.cif_commands.proofs.program.Program.done.Goals as goal

pub returns-in-Extract : goal.returns-in-Extract
returns-in-Extract g c = rw c.in-Extract.is c.job_done.ensures

pub returns-in-Feed : goal.returns-in-Feed
returns-in-Feed g c = rw c.in-Feed.is c.feed_done.ensures
