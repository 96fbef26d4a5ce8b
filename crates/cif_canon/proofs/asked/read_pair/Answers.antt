-- The left one isn't read, or the right one isn't, or both are, and narrowed or not.
use Rattle.cif_canon.proofs.Names.{at-fault, inl, inr, refl}
use Rattle.cif_canon.proofs.asked.read_pair.Goals as goal

pub returns-in_err-left : goal.returns-in_err-left
returns-in_err-left g c =
    let f = c.in_err-left.field-0.0 in
    inl (f, at-fault c.from_residual.result f c.from_residual.ensures.1, c.in_err-left.ensures, refl)

pub returns-in_err-right : goal.returns-in_err-right
returns-in_err-right g c =
    let f = c.in_err-right.field-0.0 in
    let call = c.from_residual-in_err-right in
    inr (c.in_ok-left.left, c.in_ok-left.ensures, inl (f, at-fault call.result f call.ensures.1, c.in_err-right.ensures))

pub returns : goal.returns
returns g c = inr (c.in_ok-left.left, c.in_ok-left.ensures, inr (c.in_ok-right.right, c.in_ok-right.ensures, c.narrow_both.ensures))
