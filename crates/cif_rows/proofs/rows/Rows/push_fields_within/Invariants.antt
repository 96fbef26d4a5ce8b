-- With the fields that are left, the row has them all.
use Rattle.cif_rows.proofs.Names.{drop, fields_text, length, ◌++◌, ◌+◌}
use Rattle.cif_rows.proofs.GivenFields.{IsGrowing}
use Rattle.cif_rows.specs.Steps.{fields_of, room_for}
use Rattle.cif_rows.proofs.rows.Rows.push_fields_within.Given as goal

abbrev pub invariant-loop-field : goal.invariant-loop-field
invariant-loop-field g l =
    IsGrowing g.F.RowFormat.FORMAT (l.initial.self ++ fields_text g.F.RowFormat.FORMAT (fields_of l.fields))
    (length l.initial.self + room_for (fields_of l.fields)) l.self (fields_of (drop l.field-index l.fields))
