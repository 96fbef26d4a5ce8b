-- There are as many as runs (`as-many`).
use Rattle.cif_canon.proofs.Names.{ap, length, schedule_entries, sym, ◌∙◌}
use Rattle.cif_canon.proofs.SchedulesAt.{as-many}
use Rattle.cif_canon.proofs.canonical_schedules.CanonSchedules.len.Goals as goal

pub returns : goal.returns
returns c =
    let own = c.self.inside in
    ap length c.as_slice.ensures.value ∙ sym (as-many (schedule_entries own.schedules.now) own.runs.items c.self.invariant)
    ∙ ap length c.self.view_is
