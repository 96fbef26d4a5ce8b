-- The fields are those of the format.
use Rattle.cif_views.proofs.Names.{ap, inl, inr, sym, ◌∙◌, ◌≡◌}
use Rattle.cif_views.proofs.RowNames.{added-is, fields_text}
use Rattle.cif_views.specs.Boards.{board_fields, table_fields}
use Rattle.cif_views.proofs.board_text.push_row.Goals as goal

pub returns-in-Text : goal.returns-in-Text
returns-in-Text g c =
    let f = g.F.RowFormat.FORMAT in
    added-is _ _ _ _ _ _ _ _
    (ap (λ h. fields_text f (board_fields h c.args.board.now c.args.tiplocs.now c.args.row.now)) (sym c.in-Text.is ∙ c.FORMAT.ensures))
    c.push_line.ensures

pub returns-in-Tsv : goal.returns-in-Tsv
returns-in-Tsv g c =
    let f = g.F.RowFormat.FORMAT in
    let board = c.args.board.now in
    let same : fields_text f (table_fields board.day c.args.tiplocs.now c.args.row.now)
    ≡ fields_text f (board_fields f board c.args.tiplocs.now c.args.row.now) =
    elim c.in-Tsv.is [
      | inl e ↦ ap (λ h. fields_text f (board_fields h board c.args.tiplocs.now c.args.row.now)) (sym e ∙ c.FORMAT.ensures)
      | inr e ↦ ap (λ h. fields_text f (board_fields h board c.args.tiplocs.now c.args.row.now)) (sym e ∙ c.FORMAT.ensures)
    ] in
    added-is _ _ _ _ _ _ _ _ same c.push_fields.ensures
