-- The text is a fold over items: one more goes behind it (`one-more`).
use Rattle.cif_canon.proofs.AppendedTexts.{all-items, one-more}
use Rattle.cif_canon.proofs.writing.write_each.Goals as goal

pub loop-item-preserved : goal.loop-item-preserved
loop-item-preserved g c =
    one-more _ _ (g.L.Texts.text c.args.texts.now) c.args.items.now c.loop-item.item-index _ _ c.loop-item.invariant c.item-item.result _
    c.loop-item-test.true c.item-item.is c.write.ensures

pub returns : goal.returns
returns g c =
    all-items _ _ (g.L.Texts.text c.args.texts.now) c.args.items.now c.loop-item.item-index _ _ c.loop-item.invariant
    c.loop-item-test.false
