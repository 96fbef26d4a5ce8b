-- In each format (`text-call`, `tsv-call`, `json-call`).
use Rattle.cif_views.proofs.Names.{sym, values_of, ◌∙◌}
use Rattle.cif_views.proofs.CallRows.{json-call, kept-added, some-call, some-fields, text-call, tsv-call}
use Rattle.cif_views.proofs.calls.push_call_of.Goals as goal

pub returns-in-Text : goal.returns-in-Text
returns-in-Text g c fields h =
    let f = g.F.RowFormat.FORMAT in
    let call = c.args.call.now in
    text-call _ _ f (sym c.FORMAT.ensures ∙ c.in-Text.is) fields (values_of call) _ _ _ _ _ _ _ _ (some-call f call) c.begin_row.ensures
    c.push_call.ensures c.end_row.ensures

pub returns-in-Tsv : goal.returns-in-Tsv
returns-in-Tsv g c fields h =
    let f = g.F.RowFormat.FORMAT in
    let call = c.args.call.now in
    tsv-call _ _ f (sym c.FORMAT.ensures ∙ c.in-Tsv.is) fields (values_of call) _ _ _ _ _ _ _ _ _ _ (some-fields f fields _ h)
    c.begin_row-in-Tsv.ensures (kept-added _ _ f fields _ _ _ _ _ h c.push_kept.ensures) c.push_call-in-Tsv.ensures c.end_row-in-Tsv.ensures

pub returns-in-Json : goal.returns-in-Json
returns-in-Json g c fields h =
    let f = g.F.RowFormat.FORMAT in
    let call = c.args.call.now in
    json-call _ _ f (sym c.FORMAT.ensures ∙ c.in-Json.is) fields (values_of call) _ _ _ _ _ _ _ _ (some-call f call)
    c.begin_call.ensures c.push_call-in-Json.ensures c.end_call.ensures
