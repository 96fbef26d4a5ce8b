-- The words that are left decide.
use Rattle.std.specs.List.{list_any}
use Rattle.cif_commands.proofs.Names.{drop, map, string_bytes, ◌≡◌}
use Rattle.cif_commands.specs.Program.{is_verbose}
use Rattle.cif_commands.proofs.program.has_verbose.Given as goal

abbrev pub invariant-loop-word : goal.invariant-loop-word
invariant-loop-word l =
    list_any is_verbose (map string_bytes (drop l.word-index l.words)) ≡ list_any is_verbose (map string_bytes l.words)
