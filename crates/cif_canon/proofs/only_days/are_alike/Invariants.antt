-- On each day before `first` both calendars have the same body; what is left of the window gets shorter.
use Rattle.cif_canon.proofs.Names.{body_on, map, ℕ, ◌-◌, ◌<◌, ◌≡◌, ◌≤◌}
use Rattle.cif_canon.proofs.only_days.are_alike.Given as goal

abbrev pub invariant-loop-window : goal.invariant-loop-window
invariant-loop-window g l = record {
  from : l.one.first ≤ l.first;
  upto : l.first ≤ l.one.last;
  alike : (d : ℕ) → l.one.first ≤ d → d < l.first →
      body_on (map g.E.Entry.terms l.left) l.one d ≡ body_on (map g.E.Entry.terms l.right) l.other d;
}

abbrev pub decreases-loop-window : goal.decreases-loop-window
decreases-loop-window g l = l.one.last - l.first
