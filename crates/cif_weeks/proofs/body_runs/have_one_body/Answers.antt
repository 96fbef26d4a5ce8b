-- Both positions are those of entries.
use Rattle.cif_weeks.proofs.Names.{terms_at}
use Rattle.cif_weeks.proofs.body_runs.have_one_body.Goals as goal

pub returns-else-one-other : goal.returns-else-one-other
returns-else-one-other g c = rw (
  terms_at g.E.Entry.terms _ c.args.one _ c.requires.one c.index-entries-one.is,
  terms_at g.E.Entry.terms _ c.args.other _ c.requires.other c.index-entries-other.is,
) c.same_body.ensures
