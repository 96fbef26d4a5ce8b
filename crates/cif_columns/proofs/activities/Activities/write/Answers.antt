-- By induction over the codes, as the invariant has them: packed, they fit, are printable, and are found again (`Codes`).
use Rattle.cif_columns.proofs.Names.{AreCodes, ap, left_justified, packed, ◌∙◌, ◌≡◌}
use Rattle.cif_columns.proofs.Codes.{codes_in-codes_columns, elements-packed, printable-packed, stands-codes_columns}
use Rattle.cif_columns.proofs.activities.Activities.write.Goals as goal
use Rattle.cif_columns.proofs.activities.Activities.write.Goals.{After-as_flattened}

written : (c : After-as_flattened) → c.as_flattened.result.now ≡ packed c.self.inside.codes.items
written c = c.as_flattened.ensures.value ∙ elements-packed c.as_slice.result.now ∙ ap packed c.as_slice.ensures.value

pub returns-clause-printable : goal.returns-clause-printable
returns-clause-printable c =
    c.left_justified.ensures.printable (rw (written (goal.at.returns-clause-printable c).After-as_flattened)
    (printable-packed _ c.self.invariant.each))

pub returns-clause-columns : goal.returns-clause-columns
returns-clause-columns c =
    c.left_justified.ensures.columns
    ∙ ap (left_justified 12) (c.as_flattened.ensures.value ∙ elements-packed c.as_slice.result.now)
    ∙ ap (λ codes. left_justified 12 (packed codes)) (c.as_slice.ensures.value ∙ c.self.view_is)

pub returns-clause-stands : goal.returns-clause-stands
returns-clause-stands c =
    let are : AreCodes c.args.self.now = rw (← c.self.view_is) c.self.invariant in
    rw (returns-clause-columns c) (stands-codes_columns _ are)

pub returns-clause-again : goal.returns-clause-again
returns-clause-again c =
    let are : AreCodes c.args.self.now = rw (← c.self.view_is) c.self.invariant in
    rw (returns-clause-columns c) (codes_in-codes_columns _ are)
