-- An entry's rank stands for its key, which is the only one at its position.
use Rattle.cif_calendar.proofs.Names.{AreRanked, arith, keyed, length, subst, sym, ◌+◌, ◌≡◌}
use Rattle.cif_calendar.proofs.{KeyPositions.has-key, KeyTurns.one-key, SortedPositions.ranked-more}
use Rattle.cif_calendar.proofs.by_key.ranked_positions.Goals as goal

pub loop-position-preserved : goal.loop-position-preserved
loop-position-preserved g c =
    let es = keyed g.E.Entry.key g.E.Entry.terms c.args.entries.now in
    let n = c.loop-position.position in
    let e = c.index-entries-position.result in
    let has = has-key g.E.Entry.key g.E.Entry.terms c.args.entries.now n e c.loop-position-test.true c.index-entries-position.is in
    subst (AreRanked g.E.RankedEntry.stands_for es (n + 1)) (sym c.in_ok-push.ensures.items)
    (ranked-more g.E.RankedEntry.stands_for es n c.loop-position.ranked.items c.rank.result c.loop-position.invariant
    (λ k at. subst (g.E.RankedEntry.stands_for c.rank.result) (one-key es n _ k has at) c.rank.ensures))

pub returns : goal.returns
returns g c =
    let end : c.loop-position.position ≡ length c.args.entries.now = omega (arith, c.loop-position-test.false) in
    let es = keyed g.E.Entry.key g.E.Entry.terms c.args.entries.now in
    subst (λ n. AreRanked g.E.RankedEntry.stands_for es n c.loop-position.ranked.items) end c.loop-position.invariant
