-- One column more by `used_more`.
use Rattle.cif_columns.proofs.{KeptLines.used_more, Names.arith, Names.◌∙◌}
use Rattle.cif_columns.proofs.lines.used_in_line.Goals as goal

pub loop-i-preserved : goal.loop-i-preserved
loop-i-preserved c =
    let below = c.loop-i-test.true in
    c.max-count.ensures
    ∙ used_more c.args.columns.now c.loop-i.i c.loop-i.count c.end_of.result (omega (arith, below, c.told-columns)) c.loop-i.invariant
    c.end_of.ensures
