-- What is listed of the runs is what is listed of their lines (`parts-text`).
use Rattle.cif_canon.proofs.Names.{CanonParts, ap, association_entries, association_plain, canon_lines, flat_map, ◌∙◌}
use Rattle.cif_canon.proofs.{AppendedTexts.text-is, CanonLines.parts-text}
use Rattle.cif_canon.proofs.canonical_form.Canon.list_associations.Goals as goal

pub returns : goal.returns
unfolding canon_lines
returns g c =
    let e = c.self.inside in
    let text = g.L.CanonListing.association_text c.args.listing.now in
    text-is _ _ _ _ _ _
    (parts-text text association_plain (association_entries e.extract.now.associations.items) e.associations.items
    ∙ ap (λ (v : CanonParts). flat_map text v.lines.associations) c.self.view_is)
    (rw (c.as_slice.ensures.value, c.as_slice-2.ensures.value) at c.write_runs.ensures)
