-- What is written of each field is named.
use Rattle.cif_canon.proofs.rows.push_journey.Goals as goal

pub returns-clause-text : goal.returns-clause-text
returns-clause-text g c = rw (
  c.write.ensures.columns,
  c.write-2.ensures.columns,
  c.write-3.ensures.columns,
  c.write-4.ensures.columns,
  c.write-5.ensures.columns,
  c.write-6.ensures.columns,
  c.write-7.ensures.columns,
  c.write-8.ensures.columns,
  c.write-9.ensures.columns,
  c.detail.ensures,
  c.origin-origin.ensures,
  c.terminus-terminus.ensures,
) at c.push_fields_within.ensures.text
