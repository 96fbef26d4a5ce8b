-- What was found, and those among the names that are left, are all.
use Rattle.std.specs.Prelude.{cond}
use Rattle.cif_commands.proofs.Names.{drop, map, string_bytes, ◌+◌, ◌≡◌}
use Rattle.cif_commands.specs.Job.{names_of, standard_inputs}
use Rattle.cif_commands.proofs.words.share_standard.Given as goal

abbrev pub invariant-loop-name : goal.invariant-loop-name
invariant-loop-name l =
    cond l.found 1 0 + standard_inputs (map string_bytes (drop l.name-index l.inputs.rest.items)) ≡ standard_inputs (names_of l.inputs)
