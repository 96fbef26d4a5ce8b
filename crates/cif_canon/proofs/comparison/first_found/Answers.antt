-- What was found is said of slices and of the left window: the extracts' own lists and windows are put in by equations.
use Rattle.cif_canon.proofs.Names.{AreSame, Contains, Left, Right, Tiploc, ap, association_entries, extract_parts, header_window}
use Rattle.cif_canon.proofs.Names.{option_copied, schedule_entries, sym, ◌↔◌, ◌∙◌}
use Rattle.cif_canon.proofs.{DifferentTiplocs.first-tiploc, DifferentTiplocs.no-tiploc, ListedDifferences.clear-right}
use Rattle.cif_canon.proofs.comparison.first_found.Goals as goal
use Rattle.cif_canon.proofs.comparison.first_found.Goals.{In-Ok-None, In-Ok-None-first_difference, In_default}

pub returns-in-Some-clause-found : goal.returns-in-Some-clause-found
returns-in-Some-clause-found c =
    first-tiploc c.args.left.now.tiplocs.items c.args.right.now.tiplocs.items c.as_slice-3.result.now
    (rw (c.as_slice-3.ensures.value, ← c.as_slice.ensures.value, ← c.as_slice-2.ensures.value) c.in_ok-tiplocs.ensures)
    c.in-Some.first.now (sym c.first.ensures.value ∙ ap option_copied c.in-Some.is)

-- no location differs
tiplocs : (c : In_default) → (t : Tiploc) → Contains c.args.left.now.tiplocs.items t ↔ Contains c.args.right.now.tiplocs.items t
tiplocs c =
    no-tiploc c.args.left.now.tiplocs.items c.args.right.now.tiplocs.items c.as_slice-3.result.now
    (rw (c.as_slice-3.ensures.value, ← c.as_slice.ensures.value, ← c.as_slice-2.ensures.value) c.in_ok-tiplocs.ensures)
    (sym c.first.ensures.value ∙ ap option_copied c.in_default.is)

pub returns-in-Ok-Some-clause-found : goal.returns-in-Ok-Some-clause-found
returns-in-Ok-Some-clause-found c =
    let window = c.of-window.ensures in
    let found =
    rw (c.in-Ok-Some.field-0-is, c.as_slice-4.ensures.value, c.as_slice-5.ensures.value, window.first, window.last) at
    c.in-Ok-Some.ensures in
    (tiplocs (goal.at.returns-in-Ok-Some-clause-found c).In_default, rw c.copy.ensures found)

-- nor an association
associations : (c : In-Ok-None) → AreSame (header_window c.args.left.now.header) (association_entries c.args.left.now.associations.items)
    (association_entries c.args.right.now.associations.items)
associations c =
    let window = c.of-window.ensures in
    rw (c.in-Ok-None.field-0-is, c.as_slice-4.ensures.value, c.as_slice-5.ensures.value, window.first, window.last) at
    c.in-Ok-None.ensures

pub returns-in-Ok-Some-first_difference-clause-found : goal.returns-in-Ok-Some-first_difference-clause-found
returns-in-Ok-Some-first_difference-clause-found c =
    let at = goal.at.returns-in-Ok-Some-first_difference-clause-found c in
    let is = c.in-Ok-Some-first_difference in
    let window = c.of-window.ensures in
    let found = rw (is.field-0-is, c.as_slice-6.ensures.value, c.as_slice-7.ensures.value, window.first, window.last) at is.ensures in
    (tiplocs at.In_default, (associations at.In-Ok-None).same, found)

-- nor a schedule
schedules : (c : In-Ok-None-first_difference) → AreSame (header_window c.args.left.now.header)
    (schedule_entries c.args.left.now.schedules.items) (schedule_entries c.args.right.now.schedules.items)
schedules c =
    let is = c.in-Ok-None-first_difference in
    let window = c.of-window.ensures in
    rw (is.field-0-is, c.as_slice-6.ensures.value, c.as_slice-7.ensures.value, window.first, window.last) at is.ensures

pub returns-in-Ok-None-first_difference-clause-found : goal.returns-in-Ok-None-first_difference-clause-found
returns-in-Ok-None-first_difference-clause-found c =
    let at = goal.at.returns-in-Ok-None-first_difference-clause-found c in record {
      tiplocs = tiplocs at.In_default;
      associations = (associations at.In-Ok-None).same;
      schedules = (schedules at.In-Ok-None-first_difference).same;
    }

pub returns-in-Ok-None-first_difference-clause-clear : goal.returns-in-Ok-None-first_difference-clause-clear
returns-in-Ok-None-first_difference-clause-clear c =
    let at = goal.at.returns-in-Ok-None-first_difference-clause-clear c in
    let held = associations at.In-Ok-None in
    let ran = schedules at.In-Ok-None-first_difference in (
      record { associations = held.clear Left; schedules = ran.clear Left },
      clear-right (extract_parts c.args.left.now) (extract_parts c.args.right.now) c.requires (held.clear Right) (ran.clear Right),
    )
