-- There are contents so far, which are judged; the source was read on, and hadn't failed if it gave bytes.
use Rattle.cif_feed.proofs.Names.{AreJudgedAndRest, HasGiven, HasJudged, HasReadOn, List, [], false, held, source_failed, ℕ, ◌-◌, ◌≡◌, ◌⊎◌}
use Rattle.cif_columns.specs.ContentReader.{given, limit}
use Rattle.cif_feed.proofs.judged.Judged.read.Given as goal

abbrev pub invariant-loop-contents : goal.invariant-loop-contents
invariant-loop-contents g l = (cs : List (List ℕ))
    × HasGiven AreJudgedAndRest g.R.Read.remaining (g.R.Read.remaining l.fn.source.reader) 10000 l.max_lines l.contents l.source cs
    × HasJudged l.max_lines cs l.judging × HasReadOn g.R.ReadDevice.read_errors l.fn.source l.source
    × ((held l.contents ≡ []) ⊎ (source_failed l.fn.source ≡ false))

abbrev pub decreases-loop-contents : goal.decreases-loop-contents
decreases-loop-contents g l = limit l.contents - given l.contents
