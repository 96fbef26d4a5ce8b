-- Of the records so far.
use Rattle.cif_feed.proofs.Names.{AreLast, ChangeParts, List, SaysAlone, at_keys, get, is_some, map, same_by, take, with_keys, ◌≡◌}
use Rattle.cif_feed.proofs.changes.keys_there.Given as goal

abbrev pub invariant-loop-record : goal.invariant-loop-record
invariant-loop-record g l = ((changes : List (ChangeParts g.row.R-Key.Denot g.row.R.Denot))
    → AreLast (same_by g.R.Rank.Ord.cmp g.R.Keyed.rank) changes (at_keys g.R.Keyed.rank (get g.R.Rank.Ord.cmp l.last))
    → SaysAlone (same_by g.R.Rank.Ord.cmp g.R.Keyed.rank) (with_keys g.R.Keyed.key (take l.record-index l.records)) changes
    (at_keys g.R.Keyed.rank (get g.R.Rank.Ord.cmp l.there)))
    × (l.changed.items ≡ map (λ (r : g.row.R.Denot). is_some (get g.R.Rank.Ord.cmp l.last (g.R.Keyed.rank (g.R.Keyed.key r))))
    (take l.record-index l.records))
