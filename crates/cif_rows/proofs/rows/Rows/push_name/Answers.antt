-- Only a table has names.
use Rattle.cif_rows.proofs.Names.{append-nil, inl, inr, name_text, refl, sym, ◌≡◌, []}
use Rattle.cif_rows.proofs.AddedTexts.{added-is, added-waits}
use Rattle.cif_rows.proofs.rows.Rows.push_name.Goals as goal

pub returns-in-Text : goal.returns-in-Text
returns-in-Text g c =
    let none : [] ≡ name_text g.F.RowFormat.FORMAT c.args.name.now =
    elim c.in-Text.is [ inl e ↦ rw (← c.FORMAT.ensures, e) refl | inr e ↦ rw (← c.FORMAT.ensures, e) refl ] in
    added-is _ _ _ _ _ _ _ _ none (added-waits _ _ [] _ _ _ (sym (append-nil _)))
