-- `again` puts the variant in for the call that was matched.
use Rattle.cif_extract.proofs.call.Call.write.Goals as goal

pub returns-in-At-clause-again : goal.returns-in-At-clause-again
returns-in-At-clause-again c = rw c.in-At.is c.write.ensures.again

pub returns-in-Turn-clause-again : goal.returns-in-Turn-clause-again
returns-in-Turn-clause-again c = rw c.in-Turn.is c.write-in-Turn.ensures.again
