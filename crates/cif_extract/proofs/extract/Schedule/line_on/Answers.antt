-- The detail's own line has its columns where the BS has them (`detail_columns`), and a blank line has none there.
use Rattle.cif_extract.proofs.Names.{ap, detail_columns, detail_of, detail_rows, option_map, plain_line, sym, ◌∙◌}
use Rattle.cif_extract.proofs.extract.Schedule.line_on.Goals as goal

pub returns-in-Some : goal.returns-in-Some
returns-in-Some c =
    let own = detail_columns (detail_of c.in-Some.body) c.detail_line.result c.line.ensures.detail.width c.detail_line.ensures.plain in
    c.line.ensures.plain (option_map detail_of c.args.self.now.body)
    (own ∙ ap (λ o. plain_line (detail_rows (option_map detail_of o))) (sym c.in-Some.is))
