-- A fault of either extract is one of both (`compare-fault`).
use Rattle.cif_canon.proofs.Names.{IsClearExtract, IsCompareFault, extract_parts, hands, inl, inr}
use Rattle.cif_canon.proofs.CompareFaults.{compare-fault}
use Rattle.cif_canon.proofs.differing.check_comparable.Goals as goal

pub returns-in_err-extract_runs-clause-fault : goal.returns-in_err-extract_runs-clause-fault
returns-in_err-extract_runs-clause-fault c =
    let x = extract_parts c.args.left.now in
    let y = extract_parts c.args.right.now in
    let same = c.in_ok-check_one_window.ensures.ok in
    let fault = c.in_err-extract_runs.field-0.0 in
    hands c.from_residual-in_err-extract_runs.result fault c.from_residual-in_err-extract_runs.ensures.1 (IsCompareFault x y)
    (compare-fault x y x same (λ clash first. inl first) fault c.in_err-extract_runs.ensures.fault)

pub returns-in_err-extract_runs-2-clause-fault : goal.returns-in_err-extract_runs-2-clause-fault
returns-in_err-extract_runs-2-clause-fault c =
    let x = extract_parts c.args.left.now in
    let y = extract_parts c.args.right.now in
    let same = c.in_ok-check_one_window.ensures.ok in
    let call = c.from_residual-in_err-extract_runs-2 in
    let fault = c.in_err-extract_runs-2.field-0.0 in
    let left = c.in_ok-extract_runs.ensures in
    let clear : IsClearExtract x = record { associations = left.associations.clear; schedules = left.schedules.clear } in
    hands call.result fault call.ensures.1 (IsCompareFault x y)
    (compare-fault x y y same (λ clash first. inr (clear, first)) fault c.in_err-extract_runs-2.ensures.fault)

pub returns-clause-ok : goal.returns-clause-ok
returns-clause-ok c =
    let left = c.in_ok-extract_runs.ensures in
    let right = c.in_ok-extract_runs-2.ensures in record {
      window = c.in_ok-check_one_window.ensures.ok;
      left = record { associations = left.associations.clear; schedules = left.schedules.clear };
      right = record { associations = right.associations.clear; schedules = right.schedules.clear };
    }
