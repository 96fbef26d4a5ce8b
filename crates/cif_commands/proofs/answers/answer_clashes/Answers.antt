-- What is written is an answer (`clashes-answer`); each call's faults are of known bytes.
use Rattle.cif_commands.proofs.Names.{IsClashlessRefusal, MAX_LINES, Write, extract_parts, hands, listed_status, reading_narrowed}
use Rattle.cif_commands.proofs.{KnownAnswers.clashes-answer, KnownAnswers.clashless-fault, Names.refl, Names.subst, Names.sym, Names.◌≢◌}
use Rattle.cif_commands.proofs.Answered.{ends, may-narrow, not-answered, nothing-of-input, text-shown}
use Rattle.cif_commands.specs.Answer.{clashes_in}
use Rattle.cif_commands.proofs.answers.answer_clashes.Goals as goal

pub returns-in_err-extract : goal.returns-in_err-extract
returns-in_err-extract g c =
    let asked = c.args.job.now.asked in
    let f = c.in_err-extract.field-0.0 in
    not-answered (reading_narrowed MAX_LINES asked) (IsClashlessRefusal asked) _ _ _ _ _ _ _ _ c.args.sink.now f
    (λ bytes after. clashless-fault asked bytes after f) (may-narrow f) refl (λ h. h) c.in_err-extract.ensures c.from_residual.result
    c.from_residual.ensures.1

pub returns-in_err-found : goal.returns-in_err-found
returns-in_err-found g c =
    let asked = c.args.job.now.asked in
    let call = c.from_residual-in_err-found in
    let f = c.in_err-found.field-0.0 in
    nothing-of-input _ _ _ c.args.sink.now call.result f call.ensures.1
    (subst (λ f. f ≢ Write) (sym c.in_err-found.ensures.fault) (λ is. cc)) _ _ _ _ _ _
    (ends (reading_narrowed MAX_LINES asked) (IsClashlessRefusal asked) _ _ _ _ c.in_ok-extract.extract tt c.in_ok-extract.ensures
    call.result (hands call.result f call.ensures.1 _
    (rw c.in_err-found.ensures.fault (record { fault = λ bytes after spelled. tt; other = λ is. cc; may = tt }))))

pub returns : goal.returns
returns g c =
    let asked = c.args.job.now.asked in
    let x = c.in_ok-extract.extract in
    let made = c.in_ok-found.found in
    let none = c.is_empty.result in
    let job = c.args.job.now in
    let call = c.write_clashes-written in
    text-shown (reading_narrowed MAX_LINES asked) (IsClashlessRefusal asked) _ _ _ _ x tt c.in_ok-extract.ensures c.finish.result
    _ _ _ _ c.args.sink.now call.new.sink c.finish.new.sink (clashes_in job.format made) call.result c.finish.ensures.handed_on
    (listed_status none) c.listed.result c.listed.ensures call.ensures.writes call.ensures.fault
    (clashes-answer _ job (extract_parts x) c.in_ok-extract.ensures.ok made none c.in_ok-found.ensures.all c.is_empty.ensures)
    (λ bytes after spelled. (extract_parts x, spelled)) c.finish.ensures.finishes
