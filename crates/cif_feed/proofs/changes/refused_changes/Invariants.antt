-- The keys that are there after the changes so far, and those that are refused of them.
use Rattle.cif_feed.proofs.Names.{List, SaysThere, after_all, at_keys, changes_of, get, refusals, same_by, take, ◌≡◌}
use Rattle.cif_feed.proofs.changes.refused_changes.Given as goal

abbrev pub invariant-loop-change : goal.invariant-loop-change
invariant-loop-change g l = (records : List (g.row.R-Key.Denot × g.row.R.Denot))
    → SaysThere (same_by g.R.Rank.Ord.cmp g.R.Keyed.rank) records (changes_of g.R.Keyed.key l.changes)
    (at_keys g.R.Keyed.rank (get g.R.Rank.Ord.cmp l.fn.there))
    → SaysThere (same_by g.R.Rank.Ord.cmp g.R.Keyed.rank)
    (after_all (same_by g.R.Rank.Ord.cmp g.R.Keyed.rank) records (changes_of g.R.Keyed.key (take l.change-index l.changes)))
    (changes_of g.R.Keyed.key l.changes) (at_keys g.R.Keyed.rank (get g.R.Rank.Ord.cmp l.there))
    × (l.refused.items
    ≡ refusals (same_by g.R.Rank.Ord.cmp g.R.Keyed.rank) records (changes_of g.R.Keyed.key (take l.change-index l.changes)))
