-- With the fields that are left, the row has them all.
use Rattle.cif_rows.proofs.Names.{drop, fields_text, length, map, ◌++◌, ◌+◌}
use Rattle.cif_rows.proofs.GivenFields.{IsGrowing, absent-of}
use Rattle.cif_rows.specs.Steps.{room_for}
use Rattle.cif_rows.proofs.rows.Rows.push_absent_within.Given as goal

abbrev pub invariant-loop-name : goal.invariant-loop-name
invariant-loop-name g l =
    IsGrowing g.F.RowFormat.FORMAT (l.initial.self ++ fields_text g.F.RowFormat.FORMAT (map absent-of l.names))
    (length l.initial.self + room_for (map absent-of l.names)) l.self (map absent-of (drop l.name-index l.names))
