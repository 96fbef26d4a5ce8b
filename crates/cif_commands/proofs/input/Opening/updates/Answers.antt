-- One more input is opened.
use Rattle.cif_commands.proofs.Names.{string_bytes}
use Rattle.cif_commands.proofs.OpenedInputs.{opened-next}
use Rattle.cif_commands.specs.{Input.given_by, InputLeft.input_remaining}
use Rattle.cif_commands.proofs.input.Opening.updates.Goals as goal

pub loop-name-preserved : goal.loop-name-preserved
loop-name-preserved g c =
    opened-next string_bytes
    (input_remaining g.F.Standard.Read.remaining g.F.File.Read.remaining g.F.Files.of_standard g.F.Files.of_file)
    (given_by (g.F.Files.of_standard c.args.self.now.files) (g.F.Files.of_file c.args.self.now.files)) c.args.names.now
    c.loop-name.name-index c.name-item.result _ c.loop-name.updates.items c.push.new.self.items c.as_str.result.now c.source.result
    c.loop-name-test.true c.name-item.is c.as_str.ensures.value c.in_ok-push.ensures.items c.loop-name.invariant c.source.ensures
