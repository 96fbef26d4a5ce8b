-- The positions so far, with the precedence of their schedules.
use Rattle.cif_feed.proofs.Names.{map, take, ◌≡◌}
use Rattle.cif_feed.specs.Steps.Deciding.{ranked_at}
use Rattle.cif_feed.proofs.winners.by_precedence.Given as goal

abbrev pub invariant-loop-position : goal.invariant-loop-position
invariant-loop-position l = l.ranked.items ≡ map (ranked_at l.schedules) (take l.position-index l.members)
