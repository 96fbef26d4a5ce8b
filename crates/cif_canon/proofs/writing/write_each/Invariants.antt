-- What is written is the text of the items so far.
use Rattle.cif_canon.proofs.Names.{IsAppended, flat_map, take}
use Rattle.cif_canon.proofs.writing.write_each.Given as goal

abbrev pub invariant-loop-item : goal.invariant-loop-item
invariant-loop-item g l =
    IsAppended g.W.Write.contents g.W.WriteDevice.write_errors (flat_map (g.L.Texts.text l.texts) (take l.item-index l.items))
    l.initial.sink l.sink
