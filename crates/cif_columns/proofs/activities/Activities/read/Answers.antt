-- `codes_in` computes the codes; that they stand there, alone, and are codes, is by induction over the pairs (`Codes`).
use Rattle.cif_columns.proofs.{Codes.are_codes-codes_in, Codes.codes_in-stands, Codes.stands-codes_in, Names.◌∙◌}
use Rattle.cif_columns.proofs.activities.Activities.read.Goals as goal

pub invariant_of-result : goal.invariant_of-result
invariant_of-result c = rw c.codes_of.ensures (are_codes-codes_in _ c.told-columns c.requires)

pub returns-clause-found : goal.returns-clause-found
returns-clause-found c = rw c.codes_of.ensures (stands-codes_in 6 _ c.told-columns)

pub returns-clause-only : goal.returns-clause-only
returns-clause-only c codes s = c.codes_of.ensures ∙ codes_in-stands _ codes s
