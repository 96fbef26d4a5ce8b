-- The names that are copied, and those that are left, are all of them.
use Rattle.cif_commands.proofs.Names.{drop, map, string_bytes, ◌++◌, ◌≡◌}
use Rattle.cif_commands.proofs.words.copied.Given as goal

abbrev pub invariant-loop-name : goal.invariant-loop-name
invariant-loop-name l = map string_bytes l.names.items ++ map (λ w. w.now) (drop l.name-index l.rest) ≡ map (λ w. w.now) l.rest
