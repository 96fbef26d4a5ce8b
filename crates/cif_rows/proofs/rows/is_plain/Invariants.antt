-- So far all are plain, or it is said that they aren't.
use Rattle.cif_rows.proofs.Names.{All, IsPlain, take, ◌≡◌}
use Rattle.cif_rows.proofs.rows.is_plain.Given as goal

abbrev pub invariant-loop-byte : goal.invariant-loop-byte
invariant-loop-byte l = l.escaped ≡ 0 → All IsPlain (take l.byte-index l.bytes)
