-- The bytes that are left stay the same while the source is read on; more of them are held each time, and as many as can be held decide.
use Rattle.cif_columns.proofs.Names.{HasReadOn, Keeps, false, held_bytes, known_left, length, source_failed, ◌-◌, ◌≡◌, ◌⊎◌}
use Rattle.cif_columns.proofs.ahead.Ahead.next_content.Given as goal

abbrev pub invariant-loop-next : goal.invariant-loop-next
invariant-loop-next g l = record {
  same_bytes : Keeps (known_left g.R.Read.remaining l.initial.self l.initial.source) (known_left g.R.Read.remaining l.self l.source);
  read_on : HasReadOn g.R.ReadDevice.read_errors l.initial.source l.source;
  begun : (held_bytes l.self ≡ held_bytes l.initial.self) ⊎ (source_failed l.initial.source ≡ false);
}

abbrev pub decreases-loop-next : goal.decreases-loop-next
decreases-loop-next g l = 16384 - length (held_bytes l.self)
