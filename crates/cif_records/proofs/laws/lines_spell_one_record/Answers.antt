-- A law of all records, by cases of the kind that the line names: each kind has its own law, and `one_record` joins them.
use Rattle.cif_records.proofs.Records.{one_record}
use Rattle.cif_records.proofs.laws.lines_spell_one_record.Goals as goal

pub returns : goal.returns
returns c = one_record
