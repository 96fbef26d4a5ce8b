-- One text more is written, or it fails.
use Rattle.cif_feed.proofs.{Names.writes_err, WrittenItems.one-failed}
use Rattle.cif_feed.proofs.written.write_all.Goals as goal

pub returns-in_err-write : goal.returns-in_err-write
returns-in_err-write g c =
    writes_err _ _ _ _ _ c.from_residual.result c.from_residual.ensures.0
    (one-failed _ _ g.T.Written.text c.args.items.now _ c.loop-item.item-index _ c.item-item.result c.loop-item-test.true c.item-item.is
    c.loop-item.invariant _ (c.in_err-write.ensures))
