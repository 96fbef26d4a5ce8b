-- At first all locations are left, and in the end none is (`sifting-end`).
use Rattle.cif_canon.proofs.Names.{AreDistinct, AreSifting, List, Sided, Tiploc, subst, sym}
use Rattle.cif_canon.proofs.SiftedTiplocs.{sifting-end, sifting-nothing}
use Rattle.cif_canon.proofs.tiplocs.different_tiplocs.Goals as goal

pub loop-order-init : goal.loop-order-init
loop-order-init c =
    let left = subst (AreDistinct c.args.left.now) (sym c.as_slice-lefts.ensures.value) c.in_ok-left.ensures in
    let right = subst (AreDistinct c.args.right.now) (sym c.as_slice-rights.ensures.value) c.in_ok-right.ensures in
    subst (λ (z : List (Sided Tiploc)). AreSifting c.as_slice-lefts.result.now c.as_slice-rights.result.now c.as_slice-lefts.result.now
    c.as_slice-rights.result.now z) (sym c.new-found.ensures.items)
    (sifting-nothing c.as_slice-lefts.result.now c.as_slice-rights.result.now left.rising right.rising)

pub loop-order-preserved : goal.loop-order-preserved
loop-order-preserved c = c.in_ok-rest.ensures.sifting c.as_slice-lefts.result.now c.as_slice-rights.result.now c.loop-order.invariant

pub returns : goal.returns
returns c =
    let left = subst (AreDistinct c.args.left.now) (sym c.as_slice-lefts.ensures.value) c.in_ok-left.ensures in
    let right = subst (AreDistinct c.args.right.now) (sym c.as_slice-rights.ensures.value) c.in_ok-right.ensures in
    sifting-end c.as_slice-lefts.result.now c.as_slice-rights.result.now c.loop-order.found.items c.loop-order.lefts.now
    c.loop-order.rights.now c.args.left.now c.args.right.now left right c.in_default.ensures c.loop-order.invariant
