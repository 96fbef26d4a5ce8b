-- In the order of keys none is before that of the first position (`from-first`), and positions with its key come first (`of-first_key`).
use Rattle.cif_calendar.proofs.Names.{HasKey, get_or, keyed, subst, sym}
use Rattle.cif_calendar.proofs.{KeyPositions.has-key, KeyTurns.from-first, KeyTurns.of-first_key}
use Rattle.cif_calendar.proofs.by_key.count_of_first_key.Goals as goal

pub count_of_key-requires-clause-from : goal.count_of_key-requires-clause-from
count_of_key-requires-clause-from g c =
    let es = keyed g.E.Entry.key g.E.Entry.terms c.args.entries.now in
    let leads : HasKey es (get_or c.args.positions.now 0 0) c.key.result.now =
    subst (λ k. HasKey es (get_or c.args.positions.now 0 0) k) (sym c.key.ensures)
    (has-key g.E.Entry.key g.E.Entry.terms c.args.entries.now (get_or c.args.positions.now 0 0) c.index-entries-positions.result
    (c.requires.within 0 0 c.requires.some) c.index-entries-positions.is) in
    from-first g.E.Key.Ord.cmp es c.args.positions.now c.requires.rising g.met.E.Key.Ord.total c.key.result.now leads

pub returns : goal.returns
returns g c =
    let es = keyed g.E.Entry.key g.E.Entry.terms c.args.entries.now in
    let leads : HasKey es (get_or c.args.positions.now 0 0) c.key.result.now =
    subst (λ k. HasKey es (get_or c.args.positions.now 0 0) k) (sym c.key.ensures)
    (has-key g.E.Entry.key g.E.Entry.terms c.args.entries.now (get_or c.args.positions.now 0 0) c.index-entries-positions.result
    (c.requires.within 0 0 c.requires.some) c.index-entries-positions.is) in
    of-first_key g.E.Key.Ord.cmp es c.args.positions.now c.requires.rising g.met.E.Key.Ord.total c.key.result.now leads c.requires.some
    c.count_of_key.result c.count_of_key.ensures
