-- A line more is written behind the others, or fails behind them (`line_failed`).
use Rattle.cif_columns.proofs.Names.{[], arith, drop, length, lines_text, nat_tests, refl, ◌++◌, ◌<◌, ◌∷◌}
use Rattle.cif_columns.proofs.{WrittenLines.line_failed, WrittenLines.line_split, WrittenTexts.writes_err, WrittenTexts.written_both}
use Rattle.cif_columns.proofs.sink.Sink.write_lines.Goals as goal

pub returns-in_err-write_line : goal.returns-in_err-write_line
returns-in_err-write_line g c =
    let (front, split, written) = c.loop-rest.invariant in
    let rest = c.loop-rest.rest in
    let test = c.loop-rest-test.true in
    let told = c.is_empty.ensures in
    let some : 0 < length rest = grind (arith, nat_tests, test, told) in
    writes_err _ _ (lines_text c.args.lines.now) c.args.self.now c.write_line.new.self c.from_residual.result c.from_residual.ensures.0
    (line_failed _ _ (lines_text c.args.lines.now) front rest (drop 1 rest) c.first.result some c.first.ensures refl split _ _ _ written
    c.in_err-write_line.ensures)

pub loop-rest-preserved : goal.loop-rest-preserved
loop-rest-preserved g c =
    let (front, split, written) = c.loop-rest.invariant in
    let rest = c.loop-rest.rest in
    let test = c.loop-rest-test.true in
    let told = c.is_empty.ensures in
    let some : 0 < length rest = grind (arith, nat_tests, test, told) in (
      front ++ (c.first.result ++ 10 ∷ []),
      line_split _ _ (lines_text c.args.lines.now) front rest c.rest-rest.result c.first.result some c.first.ensures c.rest-rest.ensures
          split c.args.self.now c.loop-rest.self c.write_line.new.self written,
      written_both _ _ front (c.first.result ++ 10 ∷ []) _ _ _ written c.in_ok-write_line.ensures,
    )
