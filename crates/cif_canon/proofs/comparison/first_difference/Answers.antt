-- The first run is at the first difference (`first-run`).
use Rattle.cif_canon.proofs.Names.{List, None, Run, Sided, Some, ap, option_copied, slice_get, sym, ◌∙◌, ◌≡◌}
use Rattle.cif_canon.proofs.{ListedDifferences.first-run, ListedDifferences.first-within, comparison.first_difference.Given.Over}
use Rattle.cif_canon.proofs.{comparison.first_difference.Goals.In-Some}
use Rattle.cif_canon.proofs.comparison.first_difference.Goals as goal

pub returns-in-None : goal.returns-in-None
returns-in-None g c =
    let a = c.in_ok-runs.ensures in
    first-run _ _ _ _ c.in_ok-runs.runs.items a.found a.runs_of a.first None
    (ap (λ (runs : List (Sided Run)). slice_get runs 0) (sym c.as_slice.ensures.value)
    ∙ sym c.first.ensures.value ∙ ap option_copied c.in-None.is)

head : (g : Over) (c : In-Some g) → slice_get c.in_ok-runs.runs.items 0 ≡ Some c.in-Some.first.now
head g c = ap (λ (runs : List (Sided Run)). slice_get runs 0) (sym c.as_slice.ensures.value)
    ∙ sym c.first.ensures.value ∙ ap option_copied c.in-Some.is

pub entry_of-requires : goal.entry_of-requires
entry_of-requires g c =
    let a = c.in_ok-runs.ensures in
    first-within g.E.Entry.key g.E.Entry.terms c.args.left.now c.args.right.now c.in_ok-runs.runs.items a.found a.runs_of
    c.in-Some.first.now
    (head g (goal.at.entry_of-requires g c).In-Some)

pub returns : goal.returns
returns g c =
    let a = c.in_ok-runs.ensures in
    first-run _ _ _ _ c.in_ok-runs.runs.items a.found a.runs_of a.first (Some c.in-Some.first.now)
    (head g (goal.at.returns g c).In-Some) _ c.entry_of.ensures
