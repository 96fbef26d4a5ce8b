-- The fields of each row have the names; a call's go behind those of its train, and a record's are its columns.
use Rattle.cif_views.proofs.AllFields.{all-columns, call-names, day-names, explained-names, train-rows}
use Rattle.cif_views.proofs.laws.rows_have_all_fields.Goals as goal

pub returns-clause-calls : goal.returns-clause-calls
returns-clause-calls c = call-names

pub returns-clause-day : goal.returns-clause-day
returns-clause-day c = day-names

pub returns-clause-train : goal.returns-clause-train
returns-clause-train c = train-rows

pub returns-clause-explanation : goal.returns-clause-explanation
returns-clause-explanation c = explained-names

pub returns-clause-columns : goal.returns-clause-columns
returns-clause-columns c = all-columns
