-- The fields go one after another (`more-fields`).
use Rattle.cif_views.proofs.Names.{List, call_columns, fields_in, take, ℕ}
use Rattle.cif_views.proofs.RowNames.{Field}
use Rattle.cif_views.proofs.TableRows.{first-field, more-fields}
use Rattle.cif_views.proofs.tables.push_fields_of_call.Goals as goal

pub returns : goal.returns
returns g c =
    let all : List Field = fields_in c.call_kind-kind.result call_columns c.args.line.now in
    let done : ℕ → List Field = λ n. take n all in
    let f = g.F.RowFormat.FORMAT in
    let h0 = first-field f _ _ _ c.push_text.ensures.text in
    let h1 = more-fields f _ _ _ (done 1) _ h0 c.push_text-2.ensures.text in
    let h2 = more-fields f _ _ _ (done 2) _ h1 c.push_text-3.ensures.text in
    let h3 = more-fields f _ _ _ (done 3) _ h2 c.push_text-4.ensures.text in
    let h4 = more-fields f _ _ _ (done 4) _ h3 c.push_text-5.ensures.text in
    let h5 = more-fields f _ _ _ (done 5) _ h4 c.push_text-6.ensures.text in
    let h6 = more-fields f _ _ _ (done 6) _ h5 c.push_text-7.ensures.text in
    let h7 = more-fields f _ _ _ (done 7) _ h6 c.push_text-8.ensures.text in
    let h8 = more-fields f _ _ _ (done 8) _ h7 c.push_text-9.ensures.text in
    let h9 = more-fields f _ _ _ (done 9) _ h8 c.push_text-10.ensures.text in
    let h10 = more-fields f _ _ _ (done 10) _ h9 c.push_text-11.ensures.text in
    let h11 = more-fields f _ _ _ (done 11) _ h10 c.push_text-12.ensures.text in
    let h12 = more-fields f _ _ _ (done 12) _ h11 c.push_text-13.ensures.text in
    let h13 = more-fields f _ _ _ (done 13) _ h12 c.push_text-14.ensures.text in
    let h14 = more-fields f _ _ _ (done 14) _ h13 c.push_text-15.ensures.text in
    rw (← c.call_kind-kind.ensures) h14
