-- Its lines are those of the list.
use Rattle.cif_commands.proofs.feed_run.WaivedLinesTextsDoneUpdate.write.Goals as goal

pub returns : goal.returns
returns g c = rw c.as_slice.ensures.value at c.write_each.ensures
