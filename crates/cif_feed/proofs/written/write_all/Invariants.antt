-- The texts so far are written.
use Rattle.cif_feed.proofs.Names.{HasWritten, flat_map, take}
use Rattle.cif_feed.proofs.written.write_all.Given as goal

abbrev pub invariant-loop-item : goal.invariant-loop-item
invariant-loop-item g l =
    HasWritten g.W.Write.contents g.W.WriteDevice.write_errors (flat_map g.T.Written.text (take l.item-index l.items)) l.initial.sink l.sink
