-- A row, from its beginning to its end.
use Rattle.cif_views.proofs.Names.{marked_as, placed_at}
use Rattle.cif_views.proofs.RowNames.{all-written, row-added}
use Rattle.cif_views.proofs.explanation.write_one.Goals as goal

pub returns : goal.returns
returns g c place =
    let f = g.F.RowFormat.FORMAT in
    let e = marked_as (placed_at place (g.E.Entry.key c.args.entry.now) (g.E.Entry.terms c.args.entry.now)) c.args.mark in
    all-written _ _ _ _ _ _ _ _ c.new-rows.ensures
    (row-added _ _ f (g.E.ExplainedEntry.fields c.args.day e) _ _ _ _ _ _ _ _ (c.push_row.ensures.some place f) c.begin_row.ensures
    (c.push_row.ensures.adds place) c.end_row.ensures) c.finish.ensures
