-- Each run has a record, so no run is no record (`none-listed`).
use Rattle.cif_canon.proofs.Names.{AreNone, IsTrue, association_entries, schedule_entries, subst, ◌↔◌}
use Rattle.cif_canon.proofs.SidedTexts.{none-listed}
use Rattle.cif_canon.proofs.listed_differences.Differences.is_empty.Goals as goal

pub returns : goal.returns
returns c =
    let e = c.self.inside in
    subst (λ d. IsTrue c.are_empty.result ↔ AreNone d) c.self.view_is
    (none-listed e.tiplocs.items (association_entries e.left.now.associations.items) (association_entries e.right.now.associations.items)
    e.associations.items c.self.invariant.0 (schedule_entries e.left.now.schedules.items)
    (schedule_entries e.right.now.schedules.items) e.schedules.items c.self.invariant.1 c.are_empty.result
    (rw (c.as_slice.ensures.value, c.as_slice-2.ensures.value, c.as_slice-3.ensures.value) at c.are_empty.ensures))
