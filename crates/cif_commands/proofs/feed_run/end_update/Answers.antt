-- One text is appended behind the other (`both`).
use Rattle.cif_commands.{proofs.Names.ap, proofs.Names.◌∙◌, specs.Reported.prepared_line, specs.Reported.waived_lines}
use Rattle.std.specs.List.{flat_map}
use Rattle.cif_canon.proofs.AppendedTexts.{both, text-is}
use Rattle.cif_commands.proofs.feed_run.end_update.Goals as goal

pub returns-in-Ok-clause-reported : goal.returns-in-Ok-clause-reported
returns-in-Ok-clause-reported g c =
    rw c.in-Ok.is
    (both g.W.Write.contents g.W.WriteDevice.write_errors _ _ _ _ _
    (text-is g.W.Write.contents g.W.WriteDevice.write_errors _ _ _ _
    (c.as_str.ensures.value ∙ (c.prepared_line.ensures ∙ ap prepared_line c.looks_prepared.ensures)) c.append.ensures)
    (text-is g.W.Write.contents g.W.WriteDevice.write_errors _ _ _ _ (ap (flat_map waived_lines) c.as_slice.ensures.value)
    c.write_each.ensures))
