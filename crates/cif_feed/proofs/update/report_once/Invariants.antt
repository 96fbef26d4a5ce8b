-- What is reported so far is of the lines so far.
use Rattle.cif_feed.proofs.Names.{last_line, reported_once, take, ◌++◌, ◌≡◌}
use Rattle.cif_feed.proofs.update.report_once.Given as goal

abbrev pub invariant-loop-line : goal.invariant-loop-line
invariant-loop-line l = (l.reported.items ≡ l.initial.reported.items ++ reported_once l.previous (take l.line-index l.refused))
    × (l.last ≡ last_line l.previous (take l.line-index l.refused))
