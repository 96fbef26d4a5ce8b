-- The next run's record is the first of the later ones, and is listed with this one if they are a pair (`listed-pair`, `listed-one`).
use Rattle.cif_canon.proofs.Names.{HasSidedRecord, arith, keyed, nat_tests, subst, sym}
use Rattle.cif_canon.proofs.PairedRecords.{keys-decided, listed-one, listed-pair}
use Rattle.cif_canon.proofs.listed_differences.partner.Goals as goal

pub sided_record-other-requires : goal.sided_record-other-requires
sided_record-other-requires g c =
    let test = c.if-is_empty.false in
    let known = c.is_empty.ensures in
    subst (HasSidedRecord (keyed g.E.Entry.key g.E.Entry.terms c.args.left.now) (keyed g.E.Entry.key g.E.Entry.terms c.args.right.now))
    (sym c.index-later-0.is) (c.requires 0 c.index-later-0.result (grind (arith, nat_tests, test, known)))

pub returns-then-are_pair-clause-listed : goal.returns-then-are_pair-clause-listed
returns-then-are_pair-clause-listed g c =
    let test = c.if-is_empty.false in
    let known = c.is_empty.ensures in
    listed-pair (keyed g.E.Entry.key g.E.Entry.terms c.args.left.now) (keyed g.E.Entry.key g.E.Entry.terms c.args.right.now)
    c.args.later.now c.index-later-0.result c.sided_record-other.result
    (grind (arith, nat_tests, test, known)) c.index-later-0.is c.sided_record-other.ensures g.E.Key.Ord.cmp
    (keys-decided g.E.Key.PartialEq.eq g.E.Key.Ord.cmp g.met.E.Key.Ord.matches_eq g.met.E.Entry.same_key)
    (record { side = c.args.side; it = c.args.one.now }) c.are_pair.result c.are_pair.ensures
    c.if-are_pair.true

pub returns-else-are_pair-clause-listed : goal.returns-else-are_pair-clause-listed
returns-else-are_pair-clause-listed g c =
    let test = c.if-is_empty.false in
    let known = c.is_empty.ensures in
    listed-one (keyed g.E.Entry.key g.E.Entry.terms c.args.left.now) (keyed g.E.Entry.key g.E.Entry.terms c.args.right.now)
    c.args.later.now c.index-later-0.result c.sided_record-other.result
    (grind (arith, nat_tests, test, known)) c.index-later-0.is c.sided_record-other.ensures g.E.Key.Ord.cmp
    (keys-decided g.E.Key.PartialEq.eq g.E.Key.Ord.cmp g.met.E.Key.Ord.matches_eq g.met.E.Entry.same_key)
    (record { side = c.args.side; it = c.args.one.now }) c.are_pair.result c.are_pair.ensures
    c.if-are_pair.false
