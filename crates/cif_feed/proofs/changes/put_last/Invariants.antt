-- What is put, and what the changes that are left put, is all.
use Rattle.cif_feed.proofs.Names.{AreLast, at_keys, changes_of, drop, get, length, put_last, reverse, same_by, vec_len, with_keys, ◌++◌}
use Rattle.cif_feed.proofs.Names.{◌+◌, ◌≡◌}
use Rattle.cif_feed.proofs.changes.put_last.Given as goal

abbrev pub invariant-loop-change : goal.invariant-loop-change
invariant-loop-change g l = (l.at + length l.changes.items ≡ length l.fn.changes.items)
    × (reverse l.changes.items ≡ drop l.at (reverse l.fn.changes.items))
    × (AreLast (same_by g.R.Rank.Ord.cmp g.R.Keyed.rank) (changes_of g.R.Keyed.key (reverse l.fn.changes.items))
    (at_keys g.R.Keyed.rank (get g.R.Rank.Ord.cmp l.last))
    → with_keys g.R.Keyed.key l.records.items
    ++ put_last (same_by g.R.Rank.Ord.cmp g.R.Keyed.rank) (changes_of g.R.Keyed.key (reverse l.changes.items))
    ≡ with_keys g.R.Keyed.key l.fn.records.items
    ++ put_last (same_by g.R.Rank.Ord.cmp g.R.Keyed.rank) (changes_of g.R.Keyed.key (reverse l.fn.changes.items)))

abbrev pub decreases-loop-change : goal.decreases-loop-change
decreases-loop-change g l = vec_len l.changes
