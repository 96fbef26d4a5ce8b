-- A line spells one record at most, so whichever it spells has the plain line that was answered (`only_plain`).
use Rattle.cif_records.proofs.{Names.Err, Names.Ok, Names.◌∙◌, Records.only_plain, Records.refusal-kind}
use Rattle.cif_records.proofs.record.plain_line_of.Goals as goal

pub returns-in-Ok-clause-exact : goal.returns-in-Ok-clause-exact
returns-in-Ok-clause-exact c =
    let read = c.in-Ok.ensures in
    let written = c.write_record.ensures in (
      refusal-kind c.args.line.now c.args.kind c.requires ∙ read.0,
      record { value = c.in-Ok.«record»; stands = read.1; same = written.plain; again = written.again },
    )

pub returns-in-Ok-clause-only : goal.returns-in-Ok-clause-only
returns-in-Ok-clause-only c r h = only_plain c.args.line.now (Ok c.write_record.result) (returns-in-Ok-clause-exact c) r h

pub returns-in-Err-clause-exact : goal.returns-in-Err-clause-exact
returns-in-Err-clause-exact c = refusal-kind c.args.line.now c.args.kind c.requires ∙ c.in-Err.ensures

pub returns-in-Err-clause-only : goal.returns-in-Err-clause-only
returns-in-Err-clause-only c r h = only_plain c.args.line.now (Err c.in-Err.why) (returns-in-Err-clause-exact c) r h
