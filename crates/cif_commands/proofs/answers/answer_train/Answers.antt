-- What the listing writes is an answer (`train-answer`); its faults are of known bytes (`train-fault`). `view`: of the extract
-- that was narrowed, which is kept.
use Rattle.cif_commands.proofs.Names.{IsNormaliseFault, IsTrainFault, MAX_LINES, extract_parts, narrowed-fault, reading_narrowed, refl, subst}
use Rattle.cif_commands.proofs.Answered.{may-narrow, not-answered, view-shown}
use Rattle.cif_commands.proofs.KnownAnswers.{train-answer, train-fault, train-may}
use Rattle.cif_commands.proofs.answers.answer_train.Goals as goal

pub returns-in_err-extract : goal.returns-in_err-extract
returns-in_err-extract g c =
    let asked = c.args.job.now.asked in
    let f = c.in_err-extract.field-0.0 in
    not-answered (reading_narrowed MAX_LINES asked) (IsNormaliseFault MAX_LINES asked) _ _ _ _ _ _ _ _ c.args.sink.now f
    (λ bytes after. narrowed-fault MAX_LINES asked bytes after f) (may-narrow f) refl (λ h. h) c.in_err-extract.ensures
    c.from_residual.result c.from_residual.ensures.1

pub returns : goal.returns
returns g c =
    let job = c.args.job.now in
    let narrowed = c.in_ok-extract.extract in
    let x = extract_parts narrowed in
    let call = c.train_listing-written in
    let faults = rw c.insert-extract.ensures.value at call.ensures.fault in
    let view = rw c.insert-extract.ensures.value at call.ensures.view in
    view-shown (reading_narrowed MAX_LINES job.asked) (IsNormaliseFault MAX_LINES job.asked) _ _ _ _ narrowed tt c.in_ok-extract.ensures
    c.finish.result _ _ _ _ c.args.sink.now call.new.sink c.finish.new.sink view.0 call.result c.finish.ensures.handed_on _
    (IsTrainFault x) view.1 view.2
    (train-answer _ job x c.in_ok-extract.ensures.ok view.0) (λ view. tt) faults
    (λ f is. record {
      fault = λ bytes after spelled. train-fault job.asked bytes after x spelled f is;
      other = λ read. subst (IsTrainFault x) read is;
      may = train-may x f is;
    }) c.finish.ensures.finishes
