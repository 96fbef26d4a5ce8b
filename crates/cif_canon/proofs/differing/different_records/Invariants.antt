-- The runs are those of all keys but the ones with entries at the rests.
use Rattle.cif_canon.proofs.Names.{All, keyed, length, window_days, ◌+◌, ◌<◌}
use Rattle.cif_canon.proofs.FoundRecords.{AreFound}
use Rattle.cif_canon.proofs.differing.different_records.Given as goal

abbrev pub invariant-loop-first : goal.invariant-loop-first
invariant-loop-first g l = record {
  left_within : All (λ i. i < length l.left) l.left_rest;
  right_within : All (λ i. i < length l.right) l.right_rest;
  found : AreFound g.E.Key.Ord.cmp (window_days l.window) (keyed g.E.Entry.key g.E.Entry.terms l.left)
      (keyed g.E.Entry.key g.E.Entry.terms l.right) l.left_rest l.right_rest l.found.items;
}

abbrev pub decreases-loop-first : goal.decreases-loop-first
decreases-loop-first g l = length l.left_rest + length l.right_rest
