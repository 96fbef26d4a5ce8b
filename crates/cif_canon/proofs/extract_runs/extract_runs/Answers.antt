-- What is said of slices, in the window of two dates, is said of the extract's entries and header (`of_slice`).
use Rattle.cif_canon.proofs.Names.{AreCanonicalRecords, IsCanonFault, IsRecordsFault, Train, association_entries, extract_parts, hands}
use Rattle.cif_canon.proofs.Names.{header_window, key_cmp, nat_cmp, schedule_entries, slice_cmp}
use Rattle.cif_extract.specs.declared.fault.Clash.TheVariants.{Association}
use Rattle.cif_canon.proofs.CanonForm.{associations-fault, of_slice, schedules-fault}
use Rattle.cif_canon.proofs.extract_runs.extract_runs.Goals as goal
use Rattle.cif_canon.proofs.extract_runs.extract_runs.Goals.{In_ok-associations}

-- the runs of associations
associations : (c : In_ok-associations) → AreCanonicalRecords key_cmp c.args.form (header_window c.args.extract.now.header)
    (association_entries c.args.extract.now.associations.items) c.in_ok-associations.associations.items
associations c =
    of_slice (λ window xs. AreCanonicalRecords key_cmp c.args.form window (association_entries xs) c.in_ok-associations.associations.items)
    c.args.extract.now.header _ _ _ _ c.of-window.ensures.first c.of-window.ensures.last c.as_slice.ensures.value
    c.in_ok-associations.ensures.records

pub returns-in_err-associations-clause-fault : goal.returns-in_err-associations-clause-fault
returns-in_err-associations-clause-fault c =
    let x = extract_parts c.args.extract.now in
    let fault = c.in_err-associations.field-0.0 in
    hands c.from_residual.result _ c.from_residual.ensures.1 (IsCanonFault x)
    (associations-fault x fault
    (of_slice (λ window xs. IsRecordsFault key_cmp Association (association_entries xs) window fault) x.header _ _ _ _
    c.of-window.ensures.first c.of-window.ensures.last c.as_slice.ensures.value c.in_err-associations.ensures.fault))

pub returns-in_err-schedules-clause-fault : goal.returns-in_err-schedules-clause-fault
returns-in_err-schedules-clause-fault c =
    let x = extract_parts c.args.extract.now in
    let fault = c.in_err-schedules.field-0.0 in
    let clear = (associations (goal.at.returns-in_err-schedules-clause-fault c).In_ok-associations).clear in
    hands c.from_residual-in_err-schedules.result _ c.from_residual-in_err-schedules.ensures.1 (IsCanonFault x)
    (schedules-fault x clear fault
    (of_slice (λ window xs. IsRecordsFault (slice_cmp nat_cmp) Train (schedule_entries xs) window fault) x.header _ _ _ _
    c.of-window.ensures.first c.of-window.ensures.last c.as_slice-2.ensures.value c.in_err-schedules.ensures.fault))

pub returns-clause-associations : goal.returns-clause-associations
returns-clause-associations c = associations (goal.at.returns-clause-associations c).In_ok-associations

pub returns-clause-schedules : goal.returns-clause-schedules
returns-clause-schedules c =
    of_slice (λ window xs. AreCanonicalRecords (slice_cmp nat_cmp) c.args.form window (schedule_entries xs)
    c.in_ok-schedules.schedules.items) c.args.extract.now.header _ _ _ _ c.of-window.ensures.first c.of-window.ensures.last
    c.as_slice-2.ensures.value c.in_ok-schedules.ensures.records
