-- Laws of all records, by cases of their kind: each table is whole, and what stands in a line fits its columns (`Records`).
use Rattle.cif_records.proofs.Records as records
use Rattle.cif_records.proofs.laws.plain_lines_spell_again.Goals as goal

pub returns-clause-fits : goal.returns-clause-fits
returns-clause-fits c line r is_line s = records.fit line is_line r s

pub returns-clause-line : goal.returns-clause-line
returns-clause-line c = records.line

pub returns-clause-spells : goal.returns-clause-spells
returns-clause-spells c = records.spells
