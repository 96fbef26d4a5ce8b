-- What is added to nothing is written: the fields are laid out once, and their text is kept.
use Rattle.cif_views.proofs.Names.{List, ap, length, subst, sym, ℕ, ◌++◌, ◌<◌, ◌∙◌, ◌≡◌}
use Rattle.cif_views.proofs.RowNames.{all-written, fields_text}
use Rattle.cif_views.specs.Steps.Rows.{IsRowText}
use Rattle.cif_views.proofs.calls.write_with_calls.Goals as goal

pub returns : goal.returns
returns g c =
    let f = g.F.RowFormat.FORMAT in
    let fields = g.R.RowSource.fields c.args.row.now in
    let is : c.push_row.new.rows ≡ fields_text f fields = c.push_row.ensures.text ∙ ap (λ (l : List ℕ). l ++ fields_text f fields) c.new-kept.ensures in
    all-written _ _ _ _ _ _ _ _ c.new-rows.ensures
    (c.push_with_calls.ensures fields (record { is = is; some = subst (λ (l : List ℕ). 0 < length l) (sym is) (c.push_row.ensures.some f) }))
    c.finish.ensures
