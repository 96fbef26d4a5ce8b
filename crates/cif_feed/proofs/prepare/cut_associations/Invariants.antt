-- The associations so far are cut.
use Rattle.cif_feed.proofs.Names.{ArePrepared, AssocKey, Holidays, IsStopAmong, List, ReadsAssociations, association_entries}
use Rattle.cif_feed.proofs.Names.{association_on, get, key_cmp, map, published_associations, take, ℕ}
use Rattle.cif_feed.proofs.prepare.cut_associations.Given as goal

abbrev pub invariant-loop-one : goal.invariant-loop-one
invariant-loop-one l = (h : Holidays) (days : AssocKey → List ℕ) → ReadsAssociations days (get key_cmp l.clash_dates)
    → ArePrepared (IsStopAmong h days) l.window_last (published_associations (take l.one-index l.associations))
    (association_entries (map association_on l.prepared.items))
