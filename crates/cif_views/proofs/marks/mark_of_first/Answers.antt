-- The records behind it decide (`mark-wins`, `mark-clash`).
use Rattle.cif_views.proofs.Names.{AllWithin, AllWithin-more, IsLike, ap, arith, at_read, false≢true, get_or, length-drop, length-map, map}
use Rattle.cif_views.proofs.Names.{not, not-false, placed_of, same_key-cmp, subst, sym, ◌+◌, ◌∙◌}
use Rattle.cif_views.proofs.Explaining.{mark-clash, mark-wins, member-behind, member-map, one-member}
use Rattle.cif_views.proofs.marks.mark_of_first.Goals as goal
use Rattle.cif_views.proofs.marks.mark_of_first.Goals.{else-precedence-via-else-precedence}
use Rattle.cif_views.proofs.marks.mark_of_first.Goals.{else-precedence-via-then-precedence+else-not-same_body}

pub returns-then-ne : goal.returns-then-ne
returns-then-ne g c =
    let of = placed_of g.E.Entry.key g.E.Entry.terms in
    let xs = c.args.applying.now in
    let same = same_key-cmp g.E.Key.PartialEq.eq g.E.Key.Ord.cmp g.met.E.Key.Ord.matches_eq g.met.E.Entry.same_key in
    let at = member-behind of xs (c.args.i + 1) c.loop-other.other-index c.other-item.result c.loop-other-test.true c.other-item.is in
    mark-wins g.E.Key.Ord.cmp g.met.E.Key.Ord.total same (map of xs) c.requires.rising _
    (member-map of xs c.args.i c.index-applying-i.result c.requires.within) c.requires.first (c.args.i + 1 + c.loop-other.other-index)
    (omega arith) c.loop-other.invariant
    (λ q b is key. false≢true (
    sym (ap not ((g.met.E.Entry.same_key c.key.result.now c.key-in-loop-other.result.now).1
    (c.key.ensures ∙ ap (λ r. r.key) (one-member g.E.Key.Ord.cmp g.met.E.Key.Ord.total same (map of xs) c.requires.rising _ q at b (sym is))
    ∙ key ∙ sym c.key-in-loop-other.ensures))) ∙ sym c.ne.ensures ∙ c.if-ne.true))

pub returns-then-not-same_body : goal.returns-then-not-same_body
returns-then-not-same_body g c =
    let of = placed_of g.E.Entry.key g.E.Entry.terms in
    let xs = c.args.applying.now in
    mark-clash g.E.Key.Ord.cmp g.met.E.Key.Ord.total
    (same_key-cmp g.E.Key.PartialEq.eq g.E.Key.Ord.cmp g.met.E.Key.Ord.matches_eq g.met.E.Entry.same_key) (map of xs) c.requires.rising _
    (member-map of xs c.args.i c.index-applying-i.result c.requires.within) c.requires.first _
    (member-behind of xs (c.args.i + 1) c.loop-other.other-index c.other-item.result c.loop-other-test.true c.other-item.is)
    (sym c.key.ensures ∙ (g.met.E.Entry.same_key c.key.result.now c.key-in-loop-other.result.now).0
    (not-false _ (sym c.ne.ensures ∙ c.if-ne.false)) ∙ c.key-in-loop-other.ensures)
    (sym c.precedence.ensures ∙ c.if-precedence.true ∙ c.precedence-in-loop-other.ensures)
    (λ is. false≢true (sym c.if-not-same_body.true ∙ c.same_body.ensures.1 is))

pub loop-other-preserved : goal.loop-other-preserved
loop-other-preserved g c =
    let of = placed_of g.E.Entry.key g.E.Entry.terms in
    let xs = c.args.applying.now in
    let e = get_or xs c.args.i c.index-applying-i.result in
    let at = member-behind of xs (c.args.i + 1) c.loop-other.other-index c.other-item.result c.loop-other-test.true c.other-item.is in
    let key = sym c.key.ensures ∙ (g.met.E.Entry.same_key c.key.result.now c.key-in-loop-other.result.now).0
    (not-false _ (sym c.ne.ensures ∙ c.if-ne.false)) ∙ c.key-in-loop-other.ensures in
    let n = c.args.i + 1 + c.loop-other.other-index in
    subst (AllWithin (IsLike (of e)) (map of xs) (c.args.i + 1)) (omega arith)
    (AllWithin-more (IsLike (of e)) (map of xs) (c.args.i + 1) n c.loop-other.invariant
    (at_read (map of xs) (IsLike (of e)) _ (of c.other-item.result) at.1 (sym at.2) (elim c.else-precedence.branch [
      | else-precedence-via-then-precedence+else-not-same_body w ↦ (key, λ _. w.same_body.ensures.0 w.if-not-same_body.false)
      | else-precedence-via-else-precedence w ↦ (
        key,
        λ is. absurd (w.if-precedence.false (c.precedence.ensures ∙ is ∙ sym c.precedence-in-loop-other.ensures)),
      )
    ])))

pub returns : goal.returns
returns g c =
    let of = placed_of g.E.Entry.key g.E.Entry.terms in
    let xs = c.args.applying.now in
    mark-wins g.E.Key.Ord.cmp g.met.E.Key.Ord.total
    (same_key-cmp g.E.Key.PartialEq.eq g.E.Key.Ord.cmp g.met.E.Key.Ord.matches_eq g.met.E.Entry.same_key) (map of xs) c.requires.rising _
    (member-map of xs c.args.i c.index-applying-i.result c.requires.within) c.requires.first (c.args.i + 1 + c.loop-other.other-index)
    (omega arith) c.loop-other.invariant
    (λ q b is. let below = b.1 in
    absurd (omega (arith, below, is, c.loop-other-test.false, length-map xs of, length-drop (c.args.i + 1) xs)))
