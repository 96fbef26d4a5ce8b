-- The detail's own line has its columns where the schedule has them (`detail_columns`), and a blank line has none there.
use Rattle.cif_records.proofs.Names.{AllFit, ap, basic_table, columns, detail_rows, plain_line, put_all-plain_line, refl, subst, sym, ◌∙◌}
use Rattle.cif_records.proofs.Details.{detail_columns, detail_fits, no_detail}
use Rattle.cif_records.proofs.basic.BasicLayout.put_rows.Goals as goal

pub returns-in-Some-clause-fits : goal.returns-in-Some-clause-fits
returns-in-Some-clause-fits c =
    let own = detail_fits c.write.result c.in-Some.detail c.put_rows.ensures.line c.write.ensures.again in
    c.put_rows.ensures.fits c.args.self.now.detail (subst (λ o. AllFit (detail_rows o)) (sym c.in-Some.is) own)

pub returns-in-Some-clause-columns : goal.returns-in-Some-clause-columns
returns-in-Some-clause-columns c =
    let own = detail_columns c.in-Some.detail c.write.result c.put_rows.ensures.line.width c.write.ensures.plain in
    c.put_rows.ensures.columns c.args.self.now.detail (own ∙ ap (λ o. plain_line (detail_rows o)) (sym c.in-Some.is))
    ∙ sym (put_all-plain_line (basic_table c.args.self.now) refl (returns-in-Some-clause-fits c))

pub returns-in-None-clause-fits : goal.returns-in-None-clause-fits
returns-in-None-clause-fits c =
    c.put_rows-in-None.ensures.fits c.args.self.now.detail
    (subst (λ o. AllFit (detail_rows o)) (sym c.in-None.is) (no_detail c.blank.result))

pub returns-in-None-clause-columns : goal.returns-in-None-clause-columns
returns-in-None-clause-columns c =
    c.put_rows-in-None.ensures.columns c.args.self.now.detail
    (ap (columns 30 78) c.blank.ensures ∙ ap (λ o. plain_line (detail_rows o)) (sym c.in-None.is))
    ∙ sym (put_all-plain_line (basic_table c.args.self.now) refl (returns-in-None-clause-fits c))
