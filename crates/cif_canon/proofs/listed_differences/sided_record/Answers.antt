-- The run's record is that of its side.
use Rattle.cif_canon.proofs.{MergedSides.at_side-made, Names.keyed}
use Rattle.cif_canon.proofs.listed_differences.sided_record.Goals as goal

pub record_of-requires : goal.record_of-requires
record_of-requires g c =
    rw (c.of.ensures, ← at_side-made (λ es. keyed g.E.Entry.key g.E.Entry.terms es) c.args.left.now c.args.right.now c.args.run.now.side)
    c.requires

pub returns : goal.returns
returns g c =
    rw (at_side-made (λ es. keyed g.E.Entry.key g.E.Entry.terms es) c.args.left.now c.args.right.now c.args.run.now.side, ← c.of.ensures)
    c.record_of.ensures
