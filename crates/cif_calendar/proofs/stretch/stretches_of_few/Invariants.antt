-- The stretches so far are those of the days before `first`, and what is left of the window gets shorter.
use Rattle.cif_calendar.proofs.Names.{AreAlike, AreStretches, ◌+◌, ◌-◌, ◌≤◌}
use Rattle.cif_calendar.proofs.stretch.stretches_of_few.Given as goal

abbrev pub invariant-loop-stretches : goal.invariant-loop-stretches
invariant-loop-stretches g l = record {
  from : l.window.first ≤ l.first;
  upto : l.first ≤ l.window.last;
  alike : AreAlike l.members.terms l.members.positions l.alike;
  stretches : AreStretches l.members.terms l.members.positions l.part (l.window.last + 1) l.window.first l.first l.stretches.items;
}

abbrev pub decreases-loop-stretches : goal.decreases-loop-stretches
decreases-loop-stretches g l = l.window.last - l.first
