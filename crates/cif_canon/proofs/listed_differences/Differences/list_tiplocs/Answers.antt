-- They are the locations of the differences.
use Rattle.cif_canon.proofs.{AppendedTexts.text-is, Names.DifferencesParts, Names.ap, Names.flat_map}
use Rattle.cif_canon.proofs.listed_differences.Differences.list_tiplocs.Goals as goal

pub returns : goal.returns
returns g c =
    text-is _ _ _ _ _ _ (ap (λ (d : DifferencesParts). flat_map (g.L.Texts.text c.args.texts.now) d.tiplocs) c.self.view_is)
    (rw c.as_slice.ensures.value at c.write_each.ensures)
