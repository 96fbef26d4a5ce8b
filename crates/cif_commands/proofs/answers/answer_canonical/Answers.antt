-- What is written is an answer (`canonical-answer`); a fault is that of reading the canonical form, or Write.
use Rattle.cif_commands.proofs.Names.{IsNormaliseFault, MAX_LINES, canonical_text, reading_canon, refl}
use Rattle.cif_commands.proofs.{Answered.may-check, Answered.not-answered, Answered.text-shown, KnownAnswers.canonical-answer}
use Rattle.cif_commands.proofs.answers.answer_canonical.Goals as goal

pub returns-in_err-canon : goal.returns-in_err-canon
returns-in_err-canon g c =
    let job = c.args.job.now in
    not-answered (reading_canon job.form job.asked MAX_LINES) (IsNormaliseFault MAX_LINES job.asked) _ _ _ _ _ _ _ _ c.args.sink.now
    c.in_err-canon.field-0.0 (λ bytes after h. h) (may-check c.in_err-canon.field-0.0) refl (λ h. h) c.in_err-canon.ensures
    c.from_residual.result c.from_residual.ensures.1

pub returns : goal.returns
returns g c =
    let job = c.args.job.now in
    let canon = c.in_ok-canon.canon in
    let call = c.write_canonical-written in
    text-shown (reading_canon job.form job.asked MAX_LINES) (IsNormaliseFault MAX_LINES job.asked) _ _ _ _ canon tt c.in_ok-canon.ensures
    c.finish.result _ _ _ _ c.args.sink.now call.new.sink c.finish.new.sink (canonical_text c.args.output canon) call.result
    c.finish.ensures.handed_on 0 0 refl call.ensures.writes call.ensures.fault
    (canonical-answer _ c.args.output job canon c.in_ok-canon.ensures.ok) (λ bytes after is. tt) c.finish.ensures.finishes
