-- What is written is the text of the runs so far.
use Rattle.cif_canon.proofs.Names.{IsAppended, flat_map, keyed, sided_run_text, take}
use Rattle.cif_canon.proofs.difference_lines.write_sided_runs.Given as goal

abbrev pub invariant-loop-run : goal.invariant-loop-run
invariant-loop-run g l =
    IsAppended g.W.Write.contents g.W.WriteDevice.write_errors
    (flat_map (sided_run_text (g.L.Texts.text l.texts) (keyed g.E.Entry.key g.E.Entry.terms l.left)
    (keyed g.E.Entry.key g.E.Entry.terms l.right)) (take l.run-index l.runs))
    l.initial.sink l.sink
