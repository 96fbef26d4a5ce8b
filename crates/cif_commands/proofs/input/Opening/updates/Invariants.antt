-- The inputs of the names so far are opened.
use Rattle.cif_commands.proofs.Names.{map, string_bytes, take}
use Rattle.cif_commands.specs.{Input.AreOpened, Input.given_by, InputLeft.input_remaining}
use Rattle.cif_commands.proofs.input.Opening.updates.Given as goal

abbrev pub invariant-loop-name : goal.invariant-loop-name
invariant-loop-name g l =
    AreOpened (input_remaining g.F.Standard.Read.remaining g.F.File.Read.remaining g.F.Files.of_standard g.F.Files.of_file)
    (given_by (g.F.Files.of_standard l.self.files) (g.F.Files.of_file l.self.files)) (map string_bytes (take l.name-index l.names))
    l.updates.items
