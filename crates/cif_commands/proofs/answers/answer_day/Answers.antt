-- What the listing writes is an answer (`day-answer`). `view`: of the extract that was read, which is kept.
use Rattle.cif_commands.proofs.Names.{IsDayFault, IsDayRefusal, MAX_LINES, extract_parts, inl, inr, reading_extract, refl, subst}
use Rattle.cif_commands.proofs.{Answered.may-read, Answered.not-answered, Answered.view-shown, KnownAnswers.day-answer, KnownAnswers.day-may}
use Rattle.cif_commands.proofs.answers.answer_day.Goals as goal

pub returns-in_err-extract : goal.returns-in_err-extract
returns-in_err-extract g c =
    not-answered (reading_extract MAX_LINES) (IsDayRefusal c.args.job.now.day) _ _ _ _ _ _ _ _ c.args.sink.now
    c.in_err-extract.field-0.0 (λ bytes after. inl) (may-read c.in_err-extract.field-0.0) refl (λ h. h) c.in_err-extract.ensures
    c.from_residual.result c.from_residual.ensures.1

pub returns : goal.returns
returns g c =
    let job = c.args.job.now in
    let whole = c.in_ok-extract.extract in
    let x = extract_parts whole in
    let call = c.day_listing-written in
    let faults = rw c.insert-extract.ensures.value at call.ensures.fault in
    let view = rw c.insert-extract.ensures.value at call.ensures.view in
    view-shown (reading_extract MAX_LINES) (IsDayRefusal job.day) _ _ _ _ whole tt c.in_ok-extract.ensures c.finish.result
    _ _ _ _ c.args.sink.now call.new.sink c.finish.new.sink view.0 call.result c.finish.ensures.handed_on _ (IsDayFault x job.day)
    view.1 view.2
    (day-answer _ x c.in_ok-extract.ensures.ok job view.0) (λ view. view.within) faults
    (λ f is. record {
      fault = λ bytes after spelled. inr (x, spelled, is);
      other = λ read. (subst (IsDayFault x job.day) read is).1;
      may = day-may x job.day f is;
    }) c.finish.ensures.finishes
