-- In each format.
use Rattle.cif_views.proofs.Names.{[], append-nil, call_names, codes, map, no_call_text, refl, sym, ◌≡◌}
use Rattle.cif_views.proofs.RowNames.{added-is, added-waits, fields_text}
use Rattle.cif_rows.specs.Row.{absent}
use Rattle.cif_views.proofs.calls.push_no_calls.Goals as goal

pub returns-in-Text : goal.returns-in-Text
returns-in-Text g c =
    let none : [] ≡ no_call_text g.F.RowFormat.FORMAT = rw (← c.FORMAT.ensures, c.in-Text.is) refl in
    added-is _ _ _ _ _ _ _ _ none (added-waits _ _ [] _ _ _ (sym (append-nil _)))

pub returns-in-Tsv : goal.returns-in-Tsv
returns-in-Tsv g c =
    let f = g.F.RowFormat.FORMAT in
    let same : fields_text f (map absent call_names) ≡ no_call_text f = rw (← c.FORMAT.ensures, c.in-Tsv.is) refl in
    added-is _ _ _ _ _ _ _ _ same c.push_absent.ensures

pub returns-in-Json : goal.returns-in-Json
returns-in-Json g c =
    let f = g.F.RowFormat.FORMAT in
    let same : codes "\"calls\":[]," ≡ no_call_text f = rw (← c.FORMAT.ensures, c.in-Json.is) refl in
    added-is _ _ _ _ _ _ _ _ same c.push_no_calls.ensures
