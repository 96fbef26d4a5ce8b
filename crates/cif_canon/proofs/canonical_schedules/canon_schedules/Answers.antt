-- The records of the runs are the canonical ones (`records-are`).
use Rattle.cif_canon.proofs.Names.{AreCanonSchedules, ap, extract_parts, refl, header_window, nat_cmp, schedule_entries, schedule_entry, slice_cmp, subst, sym, ◌∙◌}
use Rattle.cif_canon.proofs.{SchedulesAt.records, SchedulesAt.records-are, ViewTexts.have-lines}
use Rattle.cif_canon.proofs.canonical_schedules.canon_schedules.Goals as goal

pub invariant_of-result : goal.invariant_of-result
invariant_of-result c =
    have-lines (slice_cmp nat_cmp) c.args.form (header_window c.args.extract.now.header) schedule_entry c.as_slice.result.now _
    c.in_ok-runs.runs.schedules.items _ c.as_slice.ensures.value refl c.in_ok-runs.ensures.schedules

pub returns-clause-schedules : goal.returns-clause-schedules
returns-clause-schedules c =
    let a = c.in_ok-runs.ensures.associations in
    let s = c.in_ok-runs.ensures.schedules in
    let runs = c.in_ok-runs.runs.schedules.items in
    let are = ap (λ xs. records (schedule_entries xs) runs) c.as_slice.ensures.value
    ∙ records-are (schedule_entries c.args.extract.now.schedules.items) runs s.records s.runs_of in
    subst (AreCanonSchedules c.args.form (extract_parts c.args.extract.now)) (sym are)
    (record {
      clear = record { associations = a.clear; schedules = s.clear };
      canonical = s.canonical;
      same_meaning = s.same_meaning;
    })
