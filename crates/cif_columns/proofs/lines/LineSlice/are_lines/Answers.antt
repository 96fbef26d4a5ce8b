-- What is kept are lines (`keep_view`).
use Rattle.cif_columns.proofs.KeptLines.{keep_view}
use Rattle.cif_columns.proofs.lines.LineSlice.are_lines.Goals as goal

pub returns : goal.returns
returns c = (keep_view c.self.inside.kept.now c.args.self.now c.self.invariant c.self.view_is).are_lines
