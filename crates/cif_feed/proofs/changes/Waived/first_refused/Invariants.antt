-- The first of all that isn't waived is the first of the rest.
use Rattle.cif_feed.proofs.Names.{drop, ◌≡◌}
use Rattle.cif_feed.specs.Waived.{first_refused}
use Rattle.cif_feed.proofs.changes.Waived.first_refused.Given as goal

abbrev pub invariant-loop-line : goal.invariant-loop-line
invariant-loop-line l = first_refused l.self l.lines ≡ first_refused l.self (drop l.line-index l.lines)
