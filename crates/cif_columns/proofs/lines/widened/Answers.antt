-- A column more is that of the wide line (`column_more`), and then comes the line feed (`whole_text`).
use Rattle.cif_columns.proofs.Names.{ap, arith, drop, length-set, subst, take, wide, ◌-◌, ◌∙◌, ◌≡◌}
use Rattle.cif_columns.proofs.WideLines.{column_more, whole_text}
use Rattle.cif_columns.proofs.lines.widened.Goals as goal

pub loop-i-preserved : goal.loop-i-preserved
loop-i-preserved c =
    let before = c.split_at.ensures.back ∙ ap (drop (80 - c.from.result)) c.as_flattened.ensures.value in
    let least = c.min.ensures in
    let column = c.max.ensures in (
      length-set c.loop-i.text c.loop-i.i c.max.result ∙ c.loop-i.invariant.0,
      column_more c.args.columns.now c.args.count c.from.result c.from.ensures c.told-columns c.requires.count c.requires.printable
          c.split_at.result.1.now before c.loop-i.i c.loop-i-test.true c.loop-i.text c.max.result c.loop-i.invariant.0 c.loop-i.invariant.1
          (omega (arith, least, column)),
    )

pub returns : goal.returns
returns c =
    let end : c.loop-i.i ≡ 80 = omega (arith, c.loop-i-test.false, c.loop-i.auto.i-end) in
    whole_text c.args.columns.now c.args.count c.from.result c.from.ensures c.told-columns c.requires.count c.loop-i.text
    c.loop-i.invariant.0 (subst (λ n. take n c.loop-i.text ≡ take n (wide (take c.args.count c.args.columns.now))) end c.loop-i.invariant.1)
