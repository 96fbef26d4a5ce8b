-- Columns 3 to 60 are put at once, and the table has them in parts: `columns-parts` says that these are the same.
use Rattle.cif_records.proofs.Names.{List, [], ap, codes, exactly, header_table, printable_fact, put_all, put_all-plain_line, refl, row}
use Rattle.cif_records.proofs.Names.{spare, sym, ℕ, ◌++◌, ◌∙◌, ◌∷◌, ◌≡◌}
use Rattle.cif_records.proofs.{Headers.columns-parts, Headers.fits, Rows.onto, Rows.◌&◌}
use Rattle.cif_records.proofs.header.HeaderLayout.put_rows.Goals as goal

pub returns-clause-columns : goal.returns-clause-columns
returns-clause-columns c =
    let h = c.args.self.now in
    let rows = row 1 2 (exactly (codes "HD")) ∷ row 3 60 (exactly h.columns) ∷ row 61 80 spare ∷ [] in
    let put : c.put_spare.new.self ≡ put_all [] rows =
    onto _ c.put_spare.ensures.columns (onto _ c.put_columns-2.ensures.columns (onto _ c.put_columns.ensures.columns c.requires)) in
    put ∙ put_all-plain_line rows refl ((refl & printable_fact (codes "HD") refl) & (h.wide & h.printable) & tt & tt)
    ∙ ap (λ (l : List ℕ). codes "HD" ++ l) (columns-parts h _)
    ∙ sym (put_all-plain_line (header_table h) refl (fits h))

pub returns-clause-fits : goal.returns-clause-fits
returns-clause-fits c = fits c.args.self.now
