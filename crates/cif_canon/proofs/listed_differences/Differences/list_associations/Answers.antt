-- The runs have the records of the differences.
use Rattle.cif_canon.proofs.Names.{DifferencesParts, ap, by_pairs, flat_map, key_cmp}
use Rattle.cif_canon.proofs.AppendedTexts.{text-is}
use Rattle.cif_canon.proofs.listed_differences.Differences.list_associations.Goals as goal

pub returns : goal.returns
returns g c =
    text-is _ _ _ _ _ _ (ap (λ (d : DifferencesParts). flat_map (g.L.Texts.text c.args.texts.now) (by_pairs key_cmp d.associations))
    c.self.view_is)
    (rw (c.as_slice.ensures.value, c.as_slice-2.ensures.value, c.as_slice-3.ensures.value) at c.write_pairs.ensures)
