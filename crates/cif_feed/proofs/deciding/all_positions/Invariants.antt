-- The positions so far.
use Rattle.cif_feed.proofs.Names.{◌≡◌}
use Rattle.std.specs.List.{range_with_len}
use Rattle.cif_feed.proofs.deciding.all_positions.Given as goal

abbrev pub invariant-loop-position : goal.invariant-loop-position
invariant-loop-position l = l.positions.items ≡ range_with_len 0 l.position
