-- A source with a body is the position of an entry (`bodied-within`), and the body is that entry's (`body-there`).
use Rattle.cif_canon.proofs.{DifferentDays.bodied-within, DifferentDays.body-there, DifferentDays.same-bodies, Names.arith}
use Rattle.cif_canon.proofs.only_days.have_same_body.Goals as goal

pub bounds-left-i : goal.bounds-left-i
bounds-left-i g c = bodied-within g.E.Entry.terms c.args.left.now c.in-Some-Some.i (c.requires.left c.in-Some-Some.i c.in-Some-Some.is-0)

pub offset_bounds-left-i : goal.offset_bounds-left-i
offset_bounds-left-i g c = let below = bodied-within g.E.Entry.terms c.args.left.now c.in-Some-Some.i
    (c.requires.left c.in-Some-Some.i c.in-Some-Some.is-0) in omega (arith, below)

pub bounds-right-j : goal.bounds-right-j
bounds-right-j g c = bodied-within g.E.Entry.terms c.args.right.now c.in-Some-Some.j (c.requires.right c.in-Some-Some.j c.in-Some-Some.is-1)

pub offset_bounds-right-j : goal.offset_bounds-right-j
offset_bounds-right-j g c = let below = bodied-within g.E.Entry.terms c.args.right.now c.in-Some-Some.j
    (c.requires.right c.in-Some-Some.j c.in-Some-Some.is-1) in omega (arith, below)

pub returns-in-Some-Some : goal.returns-in-Some-Some
returns-in-Some-Some g c =
    same-bodies _ _ _ _ _ _ _ c.in-Some-Some.is-0 c.in-Some-Some.is-1
    (body-there g.E.Entry.terms c.args.left.now c.in-Some-Some.i c.index-left-i.result
    (bodied-within g.E.Entry.terms c.args.left.now c.in-Some-Some.i (c.requires.left c.in-Some-Some.i c.in-Some-Some.is-0))
    c.index-left-i.is)
    (body-there g.E.Entry.terms c.args.right.now c.in-Some-Some.j c.index-right-j.result
    (bodied-within g.E.Entry.terms c.args.right.now c.in-Some-Some.j (c.requires.right c.in-Some-Some.j c.in-Some-Some.is-1))
    c.index-right-j.is) c.same_body.ensures
