-- What is written of each field is named.
use Rattle.cif_views.proofs.Names.{refl}
use Rattle.cif_views.proofs.calls.origin_call.Goals as goal

pub returns : goal.returns
returns c = rw (
  c.write.ensures.columns,
  c.write-2.ensures.columns,
  c.write-3.ensures.columns,
  c.write-4.ensures.columns,
  c.write-5.ensures.columns,
  c.write-6.ensures.columns,
  c.write-7.ensures.columns,
) refl
