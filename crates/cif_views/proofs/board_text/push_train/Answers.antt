-- What is written of each field is named.
use Rattle.cif_views.proofs.board_text.push_train.Goals as goal

pub returns : goal.returns
returns g c = rw (
  c.to_yymmdd.ensures.columns,
  c.to_yymmdd-2.ensures.columns,
  c.write.ensures,
  c.write-2.ensures.columns,
) at c.push_fields.ensures
