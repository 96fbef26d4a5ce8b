-- The rows of a table, and its text in each format.
use Rattle.std.specs.{List.enumerate_from, List.flat_map, Prelude.List, Prelude.[], Prelude.map, Prelude.ℕ, Prelude.◌++◌, Prelude.◌∷◌}
use Rattle.cif_canon.specs.Lines.{ExtractLines, ScheduleLines}
use Rattle.cif_rows.specs.{Row.Field, Row.heading_text, Row.row_text, declared.format.Format.Format}
use Rattle.cif_views.specs.{PublicCalls.public_fields, Steps.PublicCalls.public_calls, declared.tables.Table.Table}
use Rattle.cif_views.specs.Tables.{association_fields, call_fields, calls_of, change_fields, changes_of, header_fields, names}
use Rattle.cif_views.specs.Tables.{numbered_schedule, row_of, schedule_fields, tiploc_fields}
use Rattle.cif_views.specs.declared.tables.Table.TheVariants.{Associations, Calls, Changes, Header, Public, Schedules, Tiplocs}

-- the names of a table's fields
abbrev pub table_names : Table → List (List ℕ)
table_names Header = names header_fields
table_names Tiplocs = names tiploc_fields
table_names Associations = names association_fields
table_names Schedules = names schedule_fields
table_names Calls = names call_fields
table_names Changes = names change_fields
table_names Public = names public_fields

-- the rows that a table has of a schedule with this number
abbrev pub schedule_rows : Table → ℕ → ScheduleLines → List (List Field)
schedule_rows Schedules n s = row_of schedule_fields (numbered_schedule (n, s)) ∷ []
schedule_rows Calls n s = map (row_of call_fields) (calls_of (n, s))
schedule_rows Changes n s = map (row_of change_fields) (changes_of (n, s))
schedule_rows Public n s = map (row_of public_fields) (public_calls (n, s))
schedule_rows _ n s = []

-- The rows for an extract that has these lines. Its schedules are numbered from 1 on, and so are the calls of each.
abbrev pub table_rows : Table → ExtractLines → List (List Field)
table_rows Header x = row_of header_fields x.header ∷ []
table_rows Tiplocs x = map (row_of tiploc_fields) x.tiplocs
table_rows Associations x = map (row_of association_fields) x.associations
table_rows table x = flat_map (λ s. schedule_rows table s.0 s.1) (enumerate_from 1 x.schedules)

-- a table
unfoldable pub table_text : Format → Table → ExtractLines → List ℕ
table_text format table x = heading_text format (table_names table) ++ flat_map (row_text format) (table_rows table x)
