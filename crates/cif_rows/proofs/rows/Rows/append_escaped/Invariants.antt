-- What is escaped so far.
use Rattle.cif_rows.proofs.Names.{escape, flat_map, length, take, ◌*◌, ◌++◌, ◌+◌, ◌≡◌, ◌≤◌}
use Rattle.cif_rows.proofs.rows.Rows.append_escaped.Given as goal

abbrev pub invariant-loop-byte : goal.invariant-loop-byte
invariant-loop-byte g l = record {
  text : l.self ≡ l.initial.self ++ flat_map escape (take l.byte-index l.text);
  len : length l.self ≤ length l.initial.self + 2 * l.byte-index;
}
