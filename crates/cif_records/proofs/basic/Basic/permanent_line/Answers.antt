-- Columns 30 to 78 stand as they are: `detail_columns` has them as the detail's plain ones.
use Rattle.cif_records.proofs.{Details.detail_columns, Names.Some}
use Rattle.cif_records.proofs.basic.Basic.permanent_line.Goals as goal

pub returns : goal.returns
returns c = λ d is. c.line.ensures.plain (Some d) (detail_columns d c.args.detail.now c.line.ensures.detail.width is)
