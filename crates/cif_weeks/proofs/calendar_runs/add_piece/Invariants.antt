-- The spans of the weekdays before `weekday` are among those of the days before the piece.
use Rattle.cif_weeks.proofs.{Names.map, PieceSpans.AreTaken}
use Rattle.cif_weeks.proofs.calendar_runs.add_piece.Given as goal

abbrev pub invariant-loop-weekday : goal.invariant-loop-weekday
invariant-loop-weekday g l = AreTaken (map g.E.Entry.terms l.entries) l.calendar l.piece l.weekday l.taken l.spans.items
