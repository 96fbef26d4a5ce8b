-- Of known bytes: where lines have reasons their text is named (`reasons_answer`), else that of the counts, or the fault of counting.
use Rattle.cif_commands.proofs.Names.{IsOfReading, MAX_LINES, counts_line, extract_parts, goes-on, hands-either, hands-on, refl, reported_text}
use Rattle.cif_commands.{proofs.Names.subst, proofs.Names.unread_of, proofs.CheckedLines.reasons_answer}
use Rattle.cif_feed.specs.declared.judged.Judged.TheVariants.{Extract, Reasons}
use Rattle.cif_commands.proofs.Answered.{handed-text, may-read, nothing-of-input, only-fails, reported-as, status-is}
use Rattle.cif_commands.proofs.CheckedLines.{counts-not, counts-silent, counts-written, counts_answer, judged_fault, reasons-written}
use Rattle.cif_commands.proofs.answers.answer_check_all.Goals as goal

pub returns-in_err-reasons : goal.returns-in_err-reasons
returns-in_err-reasons g c =
    let call = c.from_residual in
    let f = c.in_err-reasons.field-0.0 in
    nothing-of-input _ _ _ c.args.sink.now call.result f call.ensures.1
    (λ write. subst (IsOfReading MAX_LINES) write c.in_err-reasons.ensures.answers) _ _ _ _ _ _
    (hands-on _ _ _ _ _ _ f
    (record { fault = λ bytes after h. judged_fault c.args.job.now.asked bytes after f h; answers = may-read f; same = refl })
    c.in_err-reasons.ensures _ call.ensures.1)

pub returns-in-Reasons : goal.returns-in-Reasons
returns-in-Reasons g c =
    let asked = c.args.job.now.asked in
    let after = unread_of g.R.Read.remaining c.read.new.source in
    let call = c.map_err-written in
    let reported = reported-as _ _ _ _ _ _ _ c.write.result call.result call.ensures.cases c.write.ensures in
    let reasons = c.in-Reasons.reasons in
    record {
      answer = handed-text _ _ _ _ (reported_text reasons) 3 _ 3 call.result c.write.new.sink c.finish.new.sink c.finish.result refl
          reported.0 reported.1 (reasons_answer (g.R.Read.remaining c.args.source.now.reader) c.args.job.now after reasons
          (rw c.in-Reasons.is at c.in_ok-reasons.ensures.ok)) c.finish.ensures.finishes;
      reads = goes-on _ _ _ _ _ _ (Reasons reasons) (rw c.in-Reasons.is at c.in_ok-reasons.ensures) c.finish.result
          (reasons-written asked after reasons c.finish.result
          (status-is _ _ _ 3 call.result c.write.new.sink c.finish.new.sink c.finish.result c.finish.ensures.finishes)
          (only-fails _ _ _ _ 3 call.result c.write.new.sink c.finish.new.sink c.finish.result reported.1 refl c.finish.ensures.finishes));
      handed_on = c.finish.ensures.handed_on;
    }

pub returns-in_err-canon-in-Extract : goal.returns-in_err-canon-in-Extract
returns-in_err-canon-in-Extract g c =
    let asked = c.args.job.now.asked in
    let form = c.args.job.now.form in
    let call = c.from_residual-in_err-canon-in-Extract in
    let f = c.in_err-canon-in-Extract.field-0.0 in
    let x = c.in-Extract.extract in
    let has = c.in_err-canon-in-Extract.ensures in
    let after = unread_of g.R.Read.remaining c.read.new.source in
    nothing-of-input _ _ _ c.args.sink.now call.result f call.ensures.1 (counts-silent asked after x form f has) _ _ _ _ _ _
    (goes-on _ _ _ _ _ _ (Extract x) (rw c.in-Extract.is at c.in_ok-reasons.ensures) call.result
    (hands-either call.result f call.ensures.1 _ _ (counts-not asked after x form f has)))

pub returns-in_ok-canon-in-Extract : goal.returns-in_ok-canon-in-Extract
returns-in_ok-canon-in-Extract g c =
    let after = unread_of g.R.Read.remaining c.read.new.source in
    let call = c.write_canonical-written in
    let end = c.finish-in-Extract in
    let x = c.in-Extract.extract in
    let canon = c.in_ok-canon-in-Extract.canon in
    record {
      answer = handed-text _ _ _ _ (counts_line canon.counts) 0 _ 0 call.result call.new.sink end.new.sink end.result refl
          call.ensures.writes call.ensures.fault (counts_answer (g.R.Read.remaining c.args.source.now.reader) c.args.job.now
          (extract_parts x) canon c.in_ok-canon-in-Extract.ensures (rw c.in-Extract.is at c.in_ok-reasons.ensures.ok))
          end.ensures.finishes;
      reads = goes-on _ _ _ _ _ _ (Extract x) (rw c.in-Extract.is at c.in_ok-reasons.ensures) end.result
          (counts-written c.args.job.now.asked after x end.result
          (only-fails _ _ _ _ 0 call.result call.new.sink end.new.sink end.result call.ensures.fault refl end.ensures.finishes));
      handed_on = end.ensures.handed_on;
    }
