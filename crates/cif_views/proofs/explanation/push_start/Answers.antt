-- What is written of each field is named.
use Rattle.cif_views.proofs.Names.{ap, ◌∙◌}
use Rattle.cif_columns.specs.Stp.{letter}
use Rattle.cif_views.proofs.explanation.push_start.Goals as goal

pub returns : goal.returns
returns g c = rw (
  c.to_yymmdd.ensures.columns,
  c.to_yymmdd-2.ensures.columns,
  c.to_yymmdd-3.ensures.columns,
  c.columns_of.ensures,
  c.write.ensures.columns ∙ ap letter c.letter.ensures,
  c.write-2.ensures.columns,
  c.first.ensures,
  c.last.ensures,
  c.days.ensures,
) at c.push_fields.ensures
