-- An entry at a position of its side has its key (`has-key`).
use Rattle.cif_canon.proofs.{MergedSides.at_side-made, Names.has-key, Names.keyed}
use Rattle.cif_canon.proofs.comparison.entry_of.Goals as goal

pub returns : goal.returns
returns g c =
    rw (at_side-made (λ es. keyed g.E.Entry.key g.E.Entry.terms es) c.args.left.now c.args.right.now c.args.run.now.side, ← c.of.ensures)
    (has-key g.E.Entry.key g.E.Entry.terms c.of.result.now c.args.run.now.it.source c.index-of-run.result
    (rw c.of.ensures c.requires) c.index-of-run.is)
