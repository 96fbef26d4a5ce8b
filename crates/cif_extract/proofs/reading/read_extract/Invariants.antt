-- There are lines so far, none of them refused: the reading is what they have come to, and the source was read on.
use Rattle.cif_extract.proofs.Names.{HasReadOn, IsReading, List, given, limit, progress_of, ℕ, ◌-◌}
use Rattle.cif_extract.proofs.ReadingRuns.{HasCome}
use Rattle.cif_extract.proofs.reading.read_extract.Given as goal

abbrev pub invariant-loop-columns : goal.invariant-loop-columns
invariant-loop-columns g l = (ls : List (List ℕ)) × IsReading g.R.Read.remaining (g.R.Read.remaining l.fn.source.reader) l.max_lines l.lines
    l.source ls
    × HasCome l.max_lines ls (progress_of l.reading) × HasReadOn g.R.ReadDevice.read_errors l.fn.source l.source

abbrev pub decreases-loop-columns : goal.decreases-loop-columns
decreases-loop-columns g l = limit l.lines - given l.lines
