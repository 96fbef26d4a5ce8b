-- In the order of keys no position behind one with another key has this one (`count-ends`); or all have it (`count-of_all`).
use Rattle.cif_calendar.proofs.Names.{All, All-more, HasKey, ap, arith, false≢true, get_or, keyed, length, not, not-false, subst, sym, take}
use Rattle.cif_calendar.proofs.Names.{◌∙◌, ◌≡◌}
use Rattle.cif_calendar.proofs.{FirstClash.same_key-cmp, KeyPositions.has-key, KeyTurns.count-ends, KeyTurns.count-of_all}
use Rattle.cif_calendar.proofs.by_key.count_of_key.Goals as goal

pub returns-then-ne : goal.returns-then-ne
returns-then-ne g c =
    let count = c.loop-count.count in
    let es = keyed g.E.Entry.key g.E.Entry.terms c.args.entries.now in
    let has = has-key g.E.Entry.key g.E.Entry.terms c.args.entries.now (get_or c.args.positions.now count 0) c.index-entries-i.result
    (c.requires.within count 0 c.loop-count-test.true) c.index-entries-i.is in
    count-ends g.E.Key.Ord.cmp es c.args.positions.now c.requires.rising g.met.E.Key.Ord.total
    (same_key-cmp g.E.Key.PartialEq.eq g.E.Key.Ord.cmp g.met.E.Key.Ord.matches_eq g.met.E.Entry.same_key) count c.args.key.now
    c.key.result.now c.loop-count-test.true c.loop-count.invariant c.requires.from (subst (HasKey es _) (sym c.key.ensures) has)
    (λ e. false≢true (sym (ap not ((g.met.E.Entry.same_key c.key.result.now c.args.key.now).1 e)) ∙ sym c.ne.ensures ∙ c.if-ne.true))

pub loop-count-preserved : goal.loop-count-preserved
loop-count-preserved g c =
    let count = c.loop-count.count in
    let es = keyed g.E.Entry.key g.E.Entry.terms c.args.entries.now in
    let has = has-key g.E.Entry.key g.E.Entry.terms c.args.entries.now (get_or c.args.positions.now count 0) c.index-entries-i.result
    (c.requires.within count 0 c.loop-count-test.true) c.index-entries-i.is in
    let same = (g.met.E.Entry.same_key c.key.result.now c.args.key.now).0 (not-false _ (sym c.ne.ensures ∙ c.if-ne.false)) in
    All-more (λ i. HasKey es i c.args.key.now) c.args.positions.now count 0 c.loop-count-test.true
    c.loop-count.invariant (subst (HasKey es _) (sym c.key.ensures ∙ same) has)

pub returns : goal.returns
returns g c =
    let end : c.loop-count.count ≡ length c.args.positions.now = omega (arith, c.loop-count-test.false, c.loop-count.auto.count-end) in
    count-of_all g.E.Key.Ord.cmp (keyed g.E.Entry.key g.E.Entry.terms c.args.entries.now) c.args.positions.now c.requires.rising
    c.args.key.now
    (subst (λ n. All (λ i. HasKey (keyed g.E.Entry.key g.E.Entry.terms c.args.entries.now) i c.args.key.now)
    (take n c.args.positions.now)) end c.loop-count.invariant)
