-- All bytes are visible exactly if those that are left are.
use Rattle.cif_views.proofs.Names.{drop, ◌≡◌}
use Rattle.std.specs.{Char.is_ascii_graphic, List.list_all}
use Rattle.cif_views.proofs.places.are_visible.Given as goal

abbrev pub invariant-loop-byte : goal.invariant-loop-byte
invariant-loop-byte l = list_all is_ascii_graphic (drop l.byte-index l.word) ≡ list_all is_ascii_graphic l.word
