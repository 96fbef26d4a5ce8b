-- A byte more is as small as the others (`small`).
use Rattle.cif_columns.proofs.Names.{All, All-get_or, or_lt, subst, sym, ◌<◌}
use Rattle.cif_columns.proofs.KeptLines.{keep_view, small}
use Rattle.cif_columns.proofs.lines.LineSlice.prefetch.Goals as goal

pub loop-at-preserved : goal.loop-at-preserved
loop-at-preserved c =
    let kept = c.self.inside.kept.now in
    let k = keep_view kept c.args.self.now c.self.invariant c.self.view_is in
    let byte = All-get_or (λ b. b < 128) kept c.loop-at.at 0 c.loop-at-test.true
    (subst (All (λ b. b < 128)) (sym k.is) (small c.args.self.now k.are_lines)) in
    or_lt 7 c.loop-at.bits _ c.loop-at.invariant byte
