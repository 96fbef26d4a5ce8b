-- The test asks for the table of the location on the way in the line, by `refl`.
use Rattle.cif_records.proofs.Names.{refl, stop_in, stop_table}
use Rattle.cif_records.proofs.stop.Stop.are_plain.Goals as goal

pub returns-clause-plain : goal.returns-clause-plain
returns-clause-plain c = λ yes.
    let columns = c.args.columns.now in
    let plain = c.passes_columns.ensures.plain yes refl (stop_table (stop_in columns)) refl refl in
    (stop_in columns, plain.0, plain.1)
