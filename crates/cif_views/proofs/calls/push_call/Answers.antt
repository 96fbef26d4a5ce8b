-- Within an object the names are others.
use Rattle.cif_views.proofs.Names.{fields_of_call, inl, inr, listed_fields, nested_fields, refl, values_of, ◌≡◌}
use Rattle.cif_views.proofs.RowNames.{added-is, fields_text}
use Rattle.cif_views.proofs.calls.push_call.Goals as goal

pub returns-in-Text : goal.returns-in-Text
returns-in-Text g c =
    let f = g.F.RowFormat.FORMAT in
    let call = values_of c.args.call.now in
    let same : fields_text f (listed_fields call) ≡ fields_text f (fields_of_call f call) =
    elim c.in-Text.is [ inl e ↦ rw (← c.FORMAT.ensures, e) refl | inr e ↦ rw (← c.FORMAT.ensures, e) refl ] in
    added-is _ _ _ _ _ _ _ _ same c.push_fields.ensures

pub returns-in-Json : goal.returns-in-Json
returns-in-Json g c =
    let f = g.F.RowFormat.FORMAT in
    let call = values_of c.args.call.now in
    let same : fields_text f (nested_fields call) ≡ fields_text f (fields_of_call f call) = rw (← c.FORMAT.ensures, c.in-Json.is) refl in
    added-is _ _ _ _ _ _ _ _ same c.push_fields-in-Json.ensures
