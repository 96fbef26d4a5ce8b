-- The pieces of the stretches so far are laid.
use Rattle.cif_calendar.proofs.{LaidPieces.AreLaid, Names.drop}
use Rattle.cif_calendar.proofs.stretch.calendar_of.Given as goal

abbrev pub invariant-loop-stretch : goal.invariant-loop-stretch
invariant-loop-stretch g l = AreLaid l.members.terms l.members.positions l.fn.window.first
    l.fn.window.last l.first
    (drop l.stretch-index l.stretches) l.pieces.items
