-- In each format (`text-with-calls`, `tsv-with-calls`, `json-with-calls`).
use Rattle.cif_views.proofs.Names.{arith, calls_in, sym, ◌∙◌}
use Rattle.cif_views.proofs.CallRows.{json-with-calls, kept-added, some-fields, text-with-calls, tsv-with-calls}
use Rattle.cif_views.proofs.calls.push_with_calls.Goals as goal

pub returns-in-Text : goal.returns-in-Text
returns-in-Text g c fields h =
    let f = g.F.RowFormat.FORMAT in
    text-with-calls _ _ f (sym c.FORMAT.ensures ∙ c.in-Text.is) fields (calls_in c.args.body.now) _ _ _ _ _ _ _ _ _ _ (some-fields f fields _ h)
    c.begin_row.ensures (kept-added _ _ f fields _ _ _ _ _ h c.push_kept.ensures) c.end_row.ensures (c.push_calls.ensures fields h)

pub returns-in-Tsv : goal.returns-in-Tsv
returns-in-Tsv g c fields h =
    let f = g.F.RowFormat.FORMAT in
    tsv-with-calls _ _ f (sym c.FORMAT.ensures ∙ c.in-Tsv.is) fields (calls_in c.args.body.now) _ _ _ _ (c.push_calls-in-Tsv.ensures fields h)

pub returns-in-Json : goal.returns-in-Json
returns-in-Json g c fields h =
    let f = g.F.RowFormat.FORMAT in
    json-with-calls _ _ f (sym c.FORMAT.ensures ∙ c.in-Json.is) fields (calls_in c.args.body.now) _ _ _ _ _ _ _ _ _ _ _ _ _ _ (omega arith)
    c.begin_row-in-Json.ensures (kept-added _ _ f fields _ _ _ _ _ h c.push_kept-in-Json.ensures) c.begin_calls.ensures
    (c.push_calls-in-Json.ensures fields h) c.end_calls.ensures c.end_row-in-Json.ensures
