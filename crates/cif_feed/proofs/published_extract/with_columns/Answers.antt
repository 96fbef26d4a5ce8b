-- The columns are written over a part of the line's.
use Rattle.cif_feed.proofs.Names.{ArePrintable, ap, subst, sym, with_columns, ◌∙◌}
use Rattle.cif_feed.proofs.WrittenColumns.{printable-written, written-is}
use Rattle.cif_feed.proofs.published_extract.with_columns.Goals as goal

pub of_printable-requires : goal.of_printable-requires
of_printable-requires g c =
    printable-written _ _ c.bytes.result.now c.copy_from_slice.new.self
    (subst ArePrintable (sym c.bytes.ensures.value) c.bytes.ensures.line.printable)
    (subst ArePrintable (sym c.copy_from_slice.ensures.after) c.requires.printable)

pub returns : goal.returns
returns g c =
    c.of_printable.ensures
    ∙ written-is c.args.first g.row.N c.bytes.result.now c.args.columns.now c.copy_from_slice.new.self c.requires.from_one
    c.copy_from_slice.ensures.after c.told-columns ∙ ap (with_columns c.args.first c.args.columns.now) c.bytes.ensures.value
