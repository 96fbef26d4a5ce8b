-- The text is a fold over clashes: one more goes behind it (`one-more`).
use Rattle.cif_views.proofs.Names.{all-items, clash_line, ◌∙◌}
use Rattle.cif_canon.proofs.AppendedTexts.{nothing, one-more, text-is}
use Rattle.cif_views.proofs.clash_list.write_clashes.Goals as goal

pub loop-clash-init : goal.loop-clash-init
loop-clash-init g c = nothing _ _ _

pub loop-clash-preserved : goal.loop-clash-preserved
loop-clash-preserved g c =
    one-more _ _ clash_line c.args.clashes.now c.loop-clash.clash-index _ _ c.loop-clash.invariant c.clash-item.result _
    c.loop-clash-test.true c.clash-item.is (text-is _ _ _ _ _ _ (c.as_str.ensures.value ∙ c.line_of.ensures) c.append.ensures)

pub returns : goal.returns
returns g c = all-items _ _ clash_line c.args.clashes.now c.loop-clash.clash-index _ _ c.loop-clash.invariant c.loop-clash-test.false
