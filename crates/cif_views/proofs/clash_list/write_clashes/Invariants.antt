-- What is written is the text of the clashes so far.
use Rattle.cif_views.proofs.Names.{IsAppended, clash_line, flat_map, take}
use Rattle.cif_views.proofs.clash_list.write_clashes.Given as goal

abbrev pub invariant-loop-clash : goal.invariant-loop-clash
invariant-loop-clash g l =
    IsAppended g.W.Write.contents g.W.WriteDevice.write_errors (flat_map clash_line (take l.clash-index l.clashes))
    l.initial.sink l.sink
