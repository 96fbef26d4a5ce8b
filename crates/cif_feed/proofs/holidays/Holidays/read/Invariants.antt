-- The lines so far are lines of these holidays, and the source was read on.
use Rattle.cif_feed.proofs.Names.{AreHolidaysOf, HasGiven, HasReadOn, List, ℕ, ◌-◌}
use Rattle.cif_columns.specs.ContentReader.{given, limit}
use Rattle.cif_feed.proofs.HolidayLines.{AreLinesAndRest}
use Rattle.cif_feed.proofs.holidays.Holidays.read.Given as goal

abbrev pub invariant-loop-lines : goal.invariant-loop-lines
invariant-loop-lines g l = (ls : List (List ℕ))
    × HasGiven AreLinesAndRest g.R.Read.remaining (g.R.Read.remaining l.fn.source.reader) 1002 100000000 l.lines l.source ls
    × AreHolidaysOf ls l.holidays × HasReadOn g.R.ReadDevice.read_errors l.fn.source l.source

abbrev pub decreases-loop-lines : goal.decreases-loop-lines
decreases-loop-lines g l = limit l.lines - given l.lines
