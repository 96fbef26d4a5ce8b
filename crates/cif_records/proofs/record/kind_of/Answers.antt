-- The first kind with these letters: `found_kind` by induction over the list.
use Rattle.cif_records.proofs.{Identities.found_kind, Names.columns, Names.kinds}
use Rattle.cif_records.proofs.record.kind_of.Goals as goal

pub returns-clause-found : goal.returns-clause-found
returns-clause-found c = rw (c.kind_among.ensures, c.columns_at.ensures.value) (found_kind (columns 1 2 c.args.line.now) kinds)
