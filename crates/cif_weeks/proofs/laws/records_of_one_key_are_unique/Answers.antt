-- A law of two lists: `unique`, since two sets of records that have one form and say the same have the same members.
use Rattle.cif_weeks.proofs.Unique.{unique}
use Rattle.cif_weeks.proofs.laws.records_of_one_key_are_unique.Goals as goal

pub returns : goal.returns
returns g c form window body_on xs ys = unique form window body_on xs ys
