-- Either way it is the detail of the whole line: that of its columns alone (`detail_alone`), or the one that was read.
use Rattle.cif_records.proofs.Names.{AllStandIn, ap, detail_in, detail_table, plain_line, refl, subst, sym, ◌∙◌}
use Rattle.cif_records.proofs.Details.{detail_alone}
use Rattle.cif_records.proofs.detail.Detail.line_of.Goals as goal

pub returns-then-passes-clause-plain : goal.returns-then-passes-clause-plain
returns-then-passes-clause-plain c =
    let alone = c.columns_alone-alone.result in
    let passed = c.passes.ensures.plain c.if-passes.true (detail_table (detail_in alone)) refl refl in
    let same = detail_alone c.args.line.now alone c.columns_alone-alone.ensures.columns c.columns_alone-alone.ensures.line.width in
    sym passed.1 ∙ ap (λ d. plain_line (detail_table d)) same

pub returns-then-passes-clause-again : goal.returns-then-passes-clause-again
returns-then-passes-clause-again c =
    let alone = c.columns_alone-alone.result in
    let passed = c.passes.ensures.plain c.if-passes.true (detail_table (detail_in alone)) refl refl in
    let same = detail_alone c.args.line.now alone c.columns_alone-alone.ensures.columns c.columns_alone-alone.ensures.line.width in
    subst (λ d. AllStandIn alone (detail_table d)) same passed.0
