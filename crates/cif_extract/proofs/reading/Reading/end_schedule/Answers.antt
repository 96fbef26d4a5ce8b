-- The lines keep a whole body (`keeps_body`), and closing is the step.
use Rattle.std.proofs.lemmas.Result.{on_ok_weaker}
use Rattle.cif_extract.proofs.Names.{KeepSomeBody, Progress, ap, progress_of, subst, sym, ◌∙◌}
use Rattle.cif_records.specs.declared.record.Record.TheVariants as of
use Rattle.cif_extract.proofs.{BasicSteps.closing, BasicSteps.terminus_none, JourneySteps.keeps_body}
use Rattle.cif_extract.proofs.reading.Reading.end_schedule.Goals as goal

pub close-requires-clause-lines : goal.close-requires-clause-lines
close-requires-clause-lines c =
    let (before, line, h) = c.requires in
    let opened = ap (λ (p : Progress). p.opened) (sym h.is) ∙ sym c.take.ensures.value ∙ c.in-Some.is in
    subst KeepSomeBody (ap (λ (p : Progress). p.lines) (sym h.is))
    (keeps_body h.records before h.last h.here h.read c.in-Some.terms opened h.again).0

pub returns-in-Some : goal.returns-in-Some
returns-in-Some c = λ before line h.
    on_ok_weaker c.close.result (λ closed. (
      of.Terminus h.last,
      h.spelled,
      h.again,
      closing before (progress_of c.args.self.now) h.last h.is c.in-Some.terms (progress_of c.close.new.self)
          (sym c.take.ensures.value ∙ c.in-Some.is) (rw c.take.ensures.after at closed),
    )) c.close.ensures

pub returns-in-None : goal.returns-in-None
returns-in-None c = λ before line h. (
  of.Terminus h.last,
  h.spelled,
  h.again,
  rw c.take.ensures.after (terminus_none before (progress_of c.args.self.now) h.last h.is (sym c.take.ensures.value ∙ c.in-None.is)),
)
