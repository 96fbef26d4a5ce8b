-- A failure to write the counts is reported as Write.
use Rattle.cif_commands.proofs.Answered.{reported-as}
use Rattle.cif_commands.proofs.answers.write_canonical.Goals as goal

pub returns-in-Counts : goal.returns-in-Counts
returns-in-Counts g c =
    let call = c.map_err in
    let reported = reported-as _ _ _ _ _ _ _ c.write_counts.result call.result call.ensures.cases c.write_counts.ensures in
    rw c.in-Counts.is record { writes = rw c.counts.ensures at reported.0; fault = reported.1 }
