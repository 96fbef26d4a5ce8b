-- Each test asks for the table of what stands in the line (by `refl`), and `plain_as` has the rest from that.
use Rattle.cif_records.proofs.Names.{change_in, change_table, extra_in, extra_table, origin_in, origin_table, refl, stop_in, stop_table}
use Rattle.cif_records.{proofs.Names.terminus_in, proofs.Names.terminus_table, proofs.PlainTests.plain_as}
use Rattle.cif_records.specs.declared.record.Record.TheVariants as of
use Rattle.cif_records.proofs.record.are_plain.Goals as goal

pub returns-in-Li : goal.returns-in-Li
returns-in-Li c = λ yes.
    let it = stop_in c.args.columns.now in
    plain_as c.args.kind c.args.columns.now (of.Stop it) c.in-Li.is (c.passes_columns.ensures.line yes refl)
    (c.passes_columns.ensures.plain yes refl (stop_table it) refl refl)

pub returns-in-Cr : goal.returns-in-Cr
returns-in-Cr c = λ yes.
    let it = change_in c.args.columns.now in
    plain_as c.args.kind c.args.columns.now (of.Change it) c.in-Cr.is (c.passes_columns-in-Cr.ensures.line yes refl)
    (c.passes_columns-in-Cr.ensures.plain yes refl (change_table it) refl refl)

pub returns-in-Lt : goal.returns-in-Lt
returns-in-Lt c = λ yes.
    let it = terminus_in c.args.columns.now in
    plain_as c.args.kind c.args.columns.now (of.Terminus it) c.in-Lt.is (c.passes_columns-in-Lt.ensures.line yes refl)
    (c.passes_columns-in-Lt.ensures.plain yes refl (terminus_table it) refl refl)

pub returns-in-Lo : goal.returns-in-Lo
returns-in-Lo c = λ yes.
    let it = origin_in c.args.columns.now in
    plain_as c.args.kind c.args.columns.now (of.Origin it) c.in-Lo.is (c.passes_columns-in-Lo.ensures.line yes refl)
    (c.passes_columns-in-Lo.ensures.plain yes refl (origin_table it) refl refl)

pub returns-in-Bx : goal.returns-in-Bx
returns-in-Bx c = λ yes.
    let it = extra_in c.args.columns.now in
    plain_as c.args.kind c.args.columns.now (of.Extra it) c.in-Bx.is (c.passes_columns-in-Bx.ensures.line yes refl)
    (c.passes_columns-in-Bx.ensures.plain yes refl (extra_table it) refl refl)
