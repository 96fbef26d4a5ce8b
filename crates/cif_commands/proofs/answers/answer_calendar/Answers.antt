-- What is written is an answer (`calendar-answer`); its faults are of known bytes (`calendar-fault`). `view`: of the extract that
-- was narrowed, which is kept.
use Rattle.cif_commands.proofs.Names.{IsClashlessRefusal, IsWeekCalendarFault, MAX_LINES, extract_parts, reading_narrowed, refl, subst}
use Rattle.cif_commands.proofs.Answered.{may-narrow, not-answered, view-shown}
use Rattle.cif_commands.proofs.KnownAnswers.{calendar-answer, calendar-fault, calendar-may, clashless-fault}
use Rattle.cif_commands.proofs.answers.answer_calendar.Goals as goal

pub returns-in_err-extract : goal.returns-in_err-extract
returns-in_err-extract g c =
    let asked = c.args.job.now.asked in
    let f = c.in_err-extract.field-0.0 in
    not-answered (reading_narrowed MAX_LINES asked) (IsClashlessRefusal asked) _ _ _ _ _ _ _ _ c.args.sink.now f
    (λ bytes after. clashless-fault asked bytes after f) (may-narrow f) refl (λ h. h) c.in_err-extract.ensures c.from_residual.result
    c.from_residual.ensures.1

pub returns : goal.returns
returns g c =
    let job = c.args.job.now in
    let narrowed = c.in_ok-extract.extract in
    let x = extract_parts narrowed in
    let call = c.write_calendar-written in
    let view = rw c.insert-extract.ensures.value at call.ensures.view in
    view-shown (reading_narrowed MAX_LINES job.asked) (IsClashlessRefusal job.asked) _ _ _ _ narrowed tt c.in_ok-extract.ensures
    c.finish.result _ _ _ _ c.args.sink.now call.new.sink c.finish.new.sink view.0 call.result c.finish.ensures.handed_on _
    (IsWeekCalendarFault) view.1 view.2
    (calendar-answer _ job x c.in_ok-extract.ensures.ok view.0) (λ view. tt) call.ensures.fault
    (λ f is. record {
      fault = λ bytes after spelled. calendar-fault job.asked bytes after x spelled f is;
      other = λ read. subst IsWeekCalendarFault read is;
      may = calendar-may f is;
    }) c.finish.ensures.finishes
