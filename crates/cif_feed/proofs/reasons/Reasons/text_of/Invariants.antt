-- The text has the lines of the reasons so far.
use Rattle.cif_feed.proofs.Names.{Refusal, first_in, flat_map, lines_in, reason_line, take, ◌*◌, ◌≡◌, ◌≤◌}
use Rattle.arrayvec.specs.ArrayString.{array_string_len}
use Rattle.cif_feed.proofs.reasons.Reasons.text_of.Given as goal

abbrev pub invariant-loop-why : goal.invariant-loop-why
invariant-loop-why l = record {
  text : l.text.bytes ≡ flat_map (λ (why : Refusal). reason_line why (lines_in l.self why) (first_in l.self why))
      (take l.why-index l.reasons);
  room : array_string_len l.text ≤ 80 * l.why-index;
}
