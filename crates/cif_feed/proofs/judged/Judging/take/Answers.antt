-- A line without a reason is judged by `line_judged`; what isn't read as a record, or is no line, has its reason.
use Rattle.cif_feed.proofs.Names.{ap, record_refusal, sym, ◌∙◌}
use Rattle.cif_feed.proofs.{JudgedRuns.line_judged, ReportedReasons.judged_line, ReportedReasons.own_of_judged, ReportedReasons.own_of_line}
use Rattle.cif_feed.proofs.judged.Judging.take.Goals as goal

pub returns-in-None-clause-judged : goal.returns-in-None-clause-judged
returns-in-None-clause-judged c = λ max contents line judged numbered within is.
    line_judged max contents line c.in-Ok.line c.args.self.now c.take.new.self c.take.result (sym c.in-Ok.is ∙ is)
    (sym c.in-None.ensures) judged (λ own. c.take.ensures.taken max contents judged.order numbered within own)

pub returns-in-Some-clause-judged : goal.returns-in-Some-clause-judged
returns-in-Some-clause-judged c = λ max contents line judged numbered within is.
    let found = judged_line line c.in-Ok.line (sym c.in-Ok.is ∙ is) in
    c.refuse.ensures max contents line judged numbered (own_of_line line found.1 ∙ ap record_refusal found.0 ∙ sym c.in-Some.ensures)

pub returns-in-Err-clause-judged : goal.returns-in-Err-clause-judged
returns-in-Err-clause-judged c = λ max contents line judged numbered within is.
    c.refuse-in-Err.ensures max contents line judged numbered (own_of_judged line c.in-Err.why (sym c.in-Err.is ∙ is))
