-- The first run's record is listed with its partner or without one (`pair-first`, `one-first`).
use Rattle.cif_canon.proofs.Names.{All, All-drop, HasSidedRecord, keyed, subst, sym}
use Rattle.cif_canon.proofs.PairedRecords.{one-first, pair-first, tail-is}
use Rattle.cif_canon.proofs.listed_differences.first_listed.Goals as goal

pub sided_record-one-requires : goal.sided_record-one-requires
sided_record-one-requires g c =
    subst (HasSidedRecord (keyed g.E.Entry.key g.E.Entry.terms c.args.left.now) (keyed g.E.Entry.key g.E.Entry.terms c.args.right.now))
    (sym c.index-runs-0.is) (c.requires.records 0 c.index-runs-0.result c.requires.some)

pub partner-requires : goal.partner-requires
partner-requires g c =
    let xs = keyed g.E.Entry.key g.E.Entry.terms c.args.left.now in
    let ys = keyed g.E.Entry.key g.E.Entry.terms c.args.right.now in
    subst (All (HasSidedRecord xs ys)) (sym (tail-is c.args.runs.now))
    (All-drop (HasSidedRecord xs ys) 1 c.args.runs.now c.requires.records)

pub returns-in-Some : goal.returns-in-Some
returns-in-Some g c =
    pair-first (keyed g.E.Entry.key g.E.Entry.terms c.args.left.now) (keyed g.E.Entry.key g.E.Entry.terms c.args.right.now)
    c.args.runs.now c.index-runs-0.result c.sided_record-one.result c.requires.some c.index-runs-0.is
    c.sided_record-one.ensures g.E.Key.Ord.cmp c.in-Some.other c.in-Some.ensures.some c.in-Some.ensures.listed

pub returns-in-None : goal.returns-in-None
returns-in-None g c =
    one-first (keyed g.E.Entry.key g.E.Entry.terms c.args.left.now) (keyed g.E.Entry.key g.E.Entry.terms c.args.right.now)
    c.args.runs.now c.index-runs-0.result c.sided_record-one.result c.requires.some c.index-runs-0.is
    c.sided_record-one.ensures g.E.Key.Ord.cmp c.in-None.ensures.listed
