-- Of all variants only `again` of a stop is left: its answer puts the variant in for the record that was matched.
use Rattle.cif_records.proofs.record.write_record.Goals as goal

pub returns-in-Stop-clause-again : goal.returns-in-Stop-clause-again
returns-in-Stop-clause-again c = rw c.in-Stop.is c.write-in-Stop.ensures.again
