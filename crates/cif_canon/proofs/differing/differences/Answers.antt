-- What was found is said of slices and of the left window: the extracts' own lists and windows are put in by equations.
use Rattle.cif_canon.proofs.Names.{AllKeys, AreDifferentRuns, AreDifferentTiplocs, association_entries, extract_parts, header_window}
use Rattle.cif_canon.proofs.Names.{key_cmp, nat_cmp, schedule_entries, slice_cmp}
use Rattle.cif_canon.proofs.ListedDifferences.{are-differences, kind-records, none-agree, turn-left}
use Rattle.cif_canon.proofs.differing.differences.Goals as goal
use Rattle.cif_canon.proofs.differing.differences.Goals.{In_ok-tiplocs, In-Ok, In-Ok-different_records}

tiplocs : (c : In_ok-tiplocs) →
    AreDifferentTiplocs c.args.left.now.tiplocs.items c.args.right.now.tiplocs.items c.in_ok-tiplocs.tiplocs.items
tiplocs c = rw (c.as_slice.ensures.value, c.as_slice-2.ensures.value) at c.in_ok-tiplocs.ensures

associations : (c : In-Ok) → AreDifferentRuns key_cmp (header_window c.args.left.now.header)
    (association_entries c.args.left.now.associations.items) (association_entries c.args.right.now.associations.items)
    AllKeys c.in-Ok.associations.items
associations c =
    rw (c.as_slice-3.ensures.value, c.as_slice-4.ensures.value, c.of-window.ensures.first, c.of-window.ensures.last) at
    c.in-Ok.ensures

schedules : (c : In-Ok-different_records) → AreDifferentRuns (slice_cmp nat_cmp) (header_window c.args.left.now.header)
    (schedule_entries c.args.left.now.schedules.items) (schedule_entries c.args.right.now.schedules.items)
    AllKeys c.in-Ok-different_records.schedules.items
schedules c =
    rw (c.as_slice-5.ensures.value, c.as_slice-6.ensures.value, c.of-window.ensures.first, c.of-window.ensures.last) at
    c.in-Ok-different_records.ensures

pub of-requires-clause-associations : goal.of-requires-clause-associations
of-requires-clause-associations c =
    let at = goal.at.of-requires-clause-associations c in
    kind-records key_cmp (header_window c.args.left.now.header) (association_entries c.args.left.now.associations.items)
    (association_entries c.args.right.now.associations.items) c.in-Ok.associations.items
    (associations at.In-Ok)

pub of-requires-clause-schedules : goal.of-requires-clause-schedules
of-requires-clause-schedules c =
    let at = goal.at.of-requires-clause-schedules c in
    kind-records (slice_cmp nat_cmp) (header_window c.args.left.now.header) (schedule_entries c.args.left.now.schedules.items)
    (schedule_entries c.args.right.now.schedules.items) c.in-Ok-different_records.schedules.items (schedules at.In-Ok-different_records)

pub returns-clause-ok : goal.returns-clause-ok
returns-clause-ok c =
    let at = goal.at.returns-clause-ok c in
    are-differences (extract_parts c.args.left.now) (extract_parts c.args.right.now) c.in_ok-check_one_window.ensures.ok
    c.in_ok-tiplocs.tiplocs.items (tiplocs at.In_ok-tiplocs) c.in-Ok.associations.items (associations at.In-Ok)
    c.in-Ok-different_records.schedules.items (schedules at.In-Ok-different_records) c.of.result c.of.ensures

pub returns-clause-same : goal.returns-clause-same
returns-clause-same c =
    let at = goal.at.returns-clause-same c in
    none-agree (extract_parts c.args.left.now) (extract_parts c.args.right.now) c.in_ok-check_one_window.ensures.ok
    c.in_ok-tiplocs.tiplocs.items (tiplocs at.In_ok-tiplocs) c.in-Ok.associations.items (associations at.In-Ok)
    c.in-Ok-different_records.schedules.items (schedules at.In-Ok-different_records) c.of.result c.of.ensures

pub returns-clause-turn : goal.returns-clause-turn
returns-clause-turn c =
    let at = goal.at.returns-clause-turn c in
    turn-left (extract_parts c.args.left.now) (extract_parts c.args.right.now) c.in_ok-check_one_window.ensures.ok
    c.in_ok-tiplocs.tiplocs.items (tiplocs at.In_ok-tiplocs) c.in-Ok.associations.items (associations at.In-Ok)
    c.in-Ok-different_records.schedules.items (schedules at.In-Ok-different_records) c.of.result c.of.ensures
