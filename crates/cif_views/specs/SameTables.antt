-- Canonical extracts with the same tables.
use Rattle.std.specs.Prelude.{◌≡◌, ◌≢◌}
use Rattle.cif_canon.specs.Lines.{ExtractLines}
use Rattle.cif_rows.specs.declared.format.Format.{Format}
use Rattle.cif_views.specs.{TableText.table_text, declared.tables.Table.Table, declared.tables.Table.TheVariants.Public}

-- extracts with these lines have the same tables in this format, all but that of public calls, which follows from the others
abbrev pub HaveSameTables : Format → ExtractLines → ExtractLines → Type 0
HaveSameTables format x y = (table : Table) → table ≢ Public → table_text format table x ≡ table_text format table y
