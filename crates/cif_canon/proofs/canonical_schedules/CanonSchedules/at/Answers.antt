-- The record at a position is that of the run there (`at-position`).
use Rattle.cif_canon.proofs.Names.{BodyLines, HasRecord, List, Permanent, Run, ap, arith, get_or, length, rules, schedule_entries, slice_get}
use Rattle.cif_canon.proofs.Names.{subst, sym, ℕ, ◌<◌, ◌∙◌}
use Rattle.cif_canon.proofs.SchedulesAt.{as-many, at-position}
use Rattle.cif_canon.proofs.canonical_schedules.CanonSchedules.at.Goals as goal

pub look_ahead_at-requires-clause-position : goal.look_ahead_at-requires-clause-position
look_ahead_at-requires-clause-position c =
    let own = c.self.inside in
    let runs = c.as_slice-runs.ensures.value in
    let many = as-many (schedule_entries own.schedules.now) own.runs.items c.self.invariant in
    let same = ap length c.self.view_is in
    let within = c.requires in
    let count = ap length runs in
    omega (arith, many, same, within, count)

pub offset_bounds-runs-position : goal.offset_bounds-runs-position
offset_bounds-runs-position c =
    let own = c.self.inside in
    let runs = c.as_slice-runs.ensures.value in
    let many = as-many (schedule_entries own.schedules.now) own.runs.items c.self.invariant in
    let same = ap length c.self.view_is in
    let within = c.requires in
    let count = ap length runs in
    let below : c.args.position < length c.as_slice-runs.result.now = omega (arith, many, same, within, count) in
    search (rules, below)

pub bounds-runs-position : goal.bounds-runs-position
bounds-runs-position c =
    let own = c.self.inside in
    let runs = c.as_slice-runs.ensures.value in
    let many = as-many (schedule_entries own.schedules.now) own.runs.items c.self.invariant in
    let same = ap length c.self.view_is in
    let within = c.requires in
    let count = ap length runs in
    omega (arith, many, same, within, count)

pub record_of-requires : goal.record_of-requires
record_of-requires c =
    let own = c.self.inside in
    let runs = c.as_slice-runs.ensures.value in
    let many = as-many (schedule_entries own.schedules.now) own.runs.items c.self.invariant in
    let same = ap length c.self.view_is in
    let within = c.requires in
    let run = c.index-runs-position.result in
    let is = c.index-runs-position.is ∙ ap (λ (rs : List Run). get_or rs c.args.position run) runs in
    subst (HasRecord (schedule_entries own.schedules.now)) (sym is) (c.self.invariant c.args.position run (omega (arith, many, same, within)))

pub returns : goal.returns
returns c =
    let own = c.self.inside in
    let runs = c.as_slice-runs.ensures.value in
    let entries = schedule_entries own.schedules.now in
    let many = as-many entries own.runs.items c.self.invariant in
    let same = ap length c.self.view_is in
    let within = c.requires in
    let run = c.index-runs-position.result in
    let is = c.index-runs-position.is ∙ ap (λ (rs : List Run). get_or rs c.args.position run) runs in
    ap (λ (l : List (List ℕ × Permanent BodyLines)). slice_get l c.args.position) (sym c.self.view_is)
    ∙ at-position entries own.runs.items c.self.invariant c.args.position run (omega (arith, many, same, within)) is ∙ c.record_of.ensures
