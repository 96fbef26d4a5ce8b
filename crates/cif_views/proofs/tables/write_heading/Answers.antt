-- The names of the numbers, of the columns of one line, and of another.
use Rattle.cif_views.proofs.Names.{List, Table, ap, append_assoc, arith, column_names, columns_of, flat_map-append, length, subst, sym, table_names, ℕ, ◌++◌}
use Rattle.cif_views.proofs.Names.{◌<◌, ◌∙◌}
use Rattle.cif_views.proofs.RowNames.{Adds, added-both, added-is, all-written, heading_text, name_text, names-added, names_text}
use Rattle.cif_views.specs.declared.tables.Table.TheVariants as table
use Rattle.cif_views.proofs.tables.write_heading.Goals as goal

some-name : (t : Table) → 0 < length (table_names t)
some-name table.Header = omega arith
some-name table.Tiplocs = omega arith
some-name table.Associations = omega arith
some-name table.Schedules = omega arith
some-name table.Calls = omega arith
some-name table.Changes = omega arith
some-name table.Public = omega arith

pub returns : goal.returns
returns g c =
    let f = g.F.RowFormat.FORMAT in
    let (numbers, columns, more) = c.table_columns.result in
    let a = column_names (columns_of numbers.now) in
    let b = column_names (columns_of columns.now) in
    let d = column_names (columns_of more.now) in
    let parts = added-both _ _ _ _ _ _ _ _ _ _ c.push_names.ensures
    (added-both _ _ _ _ _ _ _ _ _ _ c.push_names-2.ensures c.push_names-3.ensures) in
    let all = added-is _ _ _ (names_text f (table_names c.args.table)) _ _ _ _
    (ap (λ (l : List ℕ). names_text f a ++ l) (sym (flat_map-append (name_text f) b d)) ∙ sym (flat_map-append (name_text f) a (b ++ d))
    ∙ ap (names_text f) (sym (append_assoc a b d) ∙ c.table_columns.ensures.names)) parts in
    let named = names-added _ _ f (table_names c.args.table) _ _ _ _ (some-name c.args.table) all in
    all-written _ _ _ _ _ _ _ _ c.new-rows.ensures
    (subst (Adds _ _ (heading_text f (table_names c.args.table)) _ _ _) (sym c.end_names.ensures) named) c.finish.ensures
