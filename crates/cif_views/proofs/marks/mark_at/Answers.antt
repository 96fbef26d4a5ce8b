-- Behind one of its key a record is as that one or hidden (`mark-kept`, `mark-hidden`).
use Rattle.cif_views.proofs.Names.{arith, map, placed_of, same_key-cmp, sym, ◌-◌, ◌∙◌}
use Rattle.cif_views.proofs.Explaining.{mark-hidden, mark-kept, member-map}
use Rattle.cif_views.proofs.marks.mark_at.Goals as goal

pub returns-then-precedence : goal.returns-then-precedence
returns-then-precedence g c known =
    let of = placed_of g.E.Entry.key g.E.Entry.terms in
    let xs = c.args.applying.now in
    mark-kept g.E.Key.Ord.cmp g.met.E.Key.Ord.total
    (same_key-cmp g.E.Key.PartialEq.eq g.E.Key.Ord.cmp g.met.E.Key.Ord.matches_eq g.met.E.Entry.same_key) (map of xs) c.requires.rising _
    (member-map of xs c.args.i c.index-applying-i.result c.requires.within) _
    (member-map of xs (c.args.i - 1) c.index-applying-i-then-i-gt0.result (omega (arith, c.requires.within)))
    (omega (arith, c.if-i-gt0.true))
    (sym c.key-then-i-gt0.ensures ∙ sym ((g.met.E.Entry.same_key c.key.result.now c.key-then-i-gt0.result.now).0
    (sym c.eq.ensures ∙ c.if-eq.true))
    ∙ c.key.ensures)
    (sym c.precedence-then-eq.ensures ∙ sym c.if-precedence.true ∙ c.precedence.ensures)
    c.args.before (known (c.args.i - 1) (omega (arith, c.if-i-gt0.true)))

pub returns-then-eq : goal.returns-then-eq
returns-then-eq g c known =
    let of = placed_of g.E.Entry.key g.E.Entry.terms in
    let xs = c.args.applying.now in
    mark-hidden g.E.Key.Ord.cmp g.met.E.Key.Ord.total
    (same_key-cmp g.E.Key.PartialEq.eq g.E.Key.Ord.cmp g.met.E.Key.Ord.matches_eq g.met.E.Entry.same_key) (map of xs) c.requires.rising _
    (member-map of xs c.args.i c.index-applying-i.result c.requires.within) _
    (member-map of xs (c.args.i - 1) c.index-applying-i-then-i-gt0.result (omega (arith, c.requires.within)))
    (omega (arith, c.if-i-gt0.true))
    (sym c.key-then-i-gt0.ensures ∙ sym ((g.met.E.Entry.same_key c.key.result.now c.key-then-i-gt0.result.now).0
    (sym c.eq.ensures ∙ c.if-eq.true))
    ∙ c.key.ensures)
    (λ is. c.if-precedence.false (c.precedence.ensures ∙ sym is ∙ sym c.precedence-then-eq.ensures))
