-- These are the last changes so far.
use Rattle.cif_feed.proofs.Names.{AreLast, at_keys, changes_of, get, same_by, take}
use Rattle.cif_feed.proofs.changes.last_changes.Given as goal

abbrev pub invariant-loop-at : goal.invariant-loop-at
invariant-loop-at g l =
    AreLast (same_by g.R.Rank.Ord.cmp g.R.Keyed.rank) (changes_of g.R.Keyed.key (take l.at l.changes))
    (at_keys g.R.Keyed.rank (get g.R.Rank.Ord.cmp l.last))
