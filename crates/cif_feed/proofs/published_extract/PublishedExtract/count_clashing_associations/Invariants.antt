-- So many of the associations so far apply on a clash date of their key.
use Rattle.cif_feed.proofs.Names.{AppliesOnAny, AssocKey, Contains, IsCountOf, List, PublishedAssociation, ReadsAssociations, get, key_cmp}
use Rattle.cif_feed.proofs.Names.{published_association_terms, take, ℕ, ◌≤◌}
use Rattle.cif_feed.proofs.published_extract.PublishedExtract.count_clashing_associations.Given as goal

abbrev pub invariant-loop-one : goal.invariant-loop-one
invariant-loop-one l = (l.count ≤ l.one-index) × ((days : AssocKey → List ℕ) → ReadsAssociations days (get key_cmp l.clash_dates)
    → IsCountOf (λ (x : PublishedAssociation). AppliesOnAny (Contains (days x.association.key)) l.holidays
    l.self.header.last (published_association_terms x))
    (take l.one-index l.associations) l.count)
