-- There are lines so far: whole lines of the input, as many as were given, of a source that was read on; fewer may follow.
use Rattle.std.proofs.Common.{◌-◌, ℕ, List}
use Rattle.cif_columns.proofs.GivenLinesLaws.{IsReading}
use Rattle.cif_columns.specs.LineReader.{given, limit}
use Rattle.cif_columns.specs.Source.{HasReadOn}
use Rattle.test_cases.proofs.devices.line_count.count_lines.Given as goal

abbrev pub invariant-loop-lines : goal.invariant-loop-lines
invariant-loop-lines g l = (ls : List (List ℕ))
    × IsReading g.R.Read.remaining (g.R.Read.remaining l.fn.source.reader) l.max_lines l.lines l.source ls
    × HasReadOn g.R.ReadDevice.read_errors l.fn.source l.source

abbrev pub decreases-loop-lines : goal.decreases-loop-lines
decreases-loop-lines g l = limit l.lines - given l.lines
