-- The one lines are appended behind the other (`both`).
use Rattle.cif_commands.{proofs.Names.ap, specs.Reported.dropped_line, specs.Reported.unreached_line}
use Rattle.std.specs.List.{flat_map}
use Rattle.cif_canon.proofs.AppendedTexts.{both, text-is}
use Rattle.cif_commands.proofs.feed_run.end_prepare.Goals as goal

pub returns-in-Ok-clause-reported : goal.returns-in-Ok-clause-reported
returns-in-Ok-clause-reported g c =
    rw c.in-Ok.is
    (both g.W.Write.contents g.W.WriteDevice.write_errors _ _ _ _ _
    (text-is g.W.Write.contents g.W.WriteDevice.write_errors _ _ _ _ (ap (flat_map unreached_line) c.unreached.ensures) c.write_each.ensures)
    (text-is g.W.Write.contents g.W.WriteDevice.write_errors _ _ _ _ (ap (flat_map dropped_line) c.as_slice.ensures.value)
    c.write_each-in-Ok.ensures))
