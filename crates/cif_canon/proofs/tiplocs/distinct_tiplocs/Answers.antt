-- Sorting permutes the locations, and of equal ones one is kept: so they rise strictly and are the same (`distinct`).
use Rattle.cif_canon.proofs.{DistinctTiplocs.distinct, Names.IsPermutation, Names.subst}
use Rattle.cif_canon.proofs.tiplocs.distinct_tiplocs.Goals as goal

pub returns : goal.returns
returns c =
    distinct c.args.tiplocs.now c.sort_unstable.new.self.items c.dedup.new.self.items
    (subst (λ ts. IsPermutation ts c.sort_unstable.new.self.items) c.in_ok-distinct.ensures.items c.sort_unstable.ensures.permutation)
    c.sort_unstable.ensures.sorted c.dedup.ensures.filtered
