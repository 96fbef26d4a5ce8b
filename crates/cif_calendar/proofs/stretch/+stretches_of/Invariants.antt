-- The part gets shorter. The stretches of both halves are merged so far, and those left get fewer.
use Rattle.cif_calendar.proofs.Names.{AreAlike, drop, length, take, ◌+◌}
use Rattle.cif_calendar.proofs.Stretches.{AreMerged}
use Rattle.cif_calendar.proofs.stretch.+stretches_of.Given as goal

abbrev pub decreases-stretches_of : goal.decreases-stretches_of
decreases-stretches_of g l = length l.part.now

abbrev pub invariant-loop-left : goal.invariant-loop-left
invariant-loop-left g l = record {
  alike : AreAlike l.members.terms l.members.positions l.alike;
  merged : AreMerged l.members.terms l.members.positions (take l.half l.part) (drop l.half l.part)
      (l.window.last + 1)
      l.window.first (l.window.last + 1) l.left l.right l.stretches.items;
}

abbrev pub decreases-loop-left : goal.decreases-loop-left
decreases-loop-left g l = length l.left + length l.right
