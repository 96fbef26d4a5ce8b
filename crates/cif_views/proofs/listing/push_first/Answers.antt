-- By what it is.
use Rattle.cif_views.proofs.listing.push_first.Goals as goal

pub returns-in-Date-clause-text : goal.returns-in-Date-clause-text
returns-in-Date-clause-text g c = rw c.in-Date.is (rw (c.to_yymmdd.ensures.columns) at c.push_fields_within.ensures.text)

pub returns-in-Train-clause-text : goal.returns-in-Train-clause-text
returns-in-Train-clause-text g c = rw c.in-Train.is (rw (c.write.ensures.columns) at c.push_fields_within-in-Train.ensures.text)
