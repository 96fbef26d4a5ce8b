-- The first run goes behind the others (`moved-of`), and in the end no run is left (`merging-end`).
use Rattle.cif_canon.proofs.MergedSides.{merging-end, merging-nothing, moved-of}
use Rattle.cif_canon.proofs.differing.push_merged.Goals as goal

pub loop-side-init : goal.loop-side-init
loop-side-init c = merging-nothing c.args.left.now c.args.right.now c.args.found.now.items c.requires.left c.requires.right

pub loop-side-preserved : goal.loop-side-preserved
loop-side-preserved c =
    moved-of c.args.left.now c.args.right.now c.args.found.now.items c.loop-side.found.items c.push_next.new.found.items c.in-Some.side
    c.loop-side.lefts.now c.loop-side.rights.now _ _ c.in-Some.ensures c.in_ok-rest.ensures c.loop-side.invariant

pub returns : goal.returns
returns c =
    merging-end c.args.left.now c.args.right.now c.loop-side.lefts.now c.loop-side.rights.now c.args.found.now.items
    c.loop-side.found.items c.in_default.ensures c.loop-side.invariant
