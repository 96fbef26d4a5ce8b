-- Each value was found where its row says. A line spells one first location (`one_origin`), and none if it is refused.
use Rattle.cif_records.proofs.{Judging.only, Names.origin_refusal, Origins.no_refusal, Origins.one_origin, Rows.◌&◌}
use Rattle.cif_records.proofs.origin.Origin.read.Goals as goal

pub returns-in-Ok-clause-exact : goal.returns-in-Ok-clause-exact
unfolding origin_refusal
returns-in-Ok-clause-exact c =
    c.in-Ok.ensures.0 & c.in-Ok.ensures.1.0 & c.text_at.ensures.found & c.text_at-in-Ok.ensures.found & c.in-Ok.ensures.1.1
    & c.in-Ok.ensures.1.2 & c.text_at-in-Ok-2.ensures.found & c.text_at-in-Ok-3.ensures.found & c.text_at-in-Ok-4.ensures.found
    & c.text_at-in-Ok-5.ensures.found & c.activities_at.ensures.found & c.text_at-in-Ok-6.ensures.found & tt & tt

pub returns-in-Ok-clause-only : goal.returns-in-Ok-clause-only
returns-in-Ok-clause-only c r h = only _ _ _ (one_origin c.args.line.now) (no_refusal c.args.line.now) (returns-in-Ok-clause-exact c) r h

pub returns-in-Err-clause-only : goal.returns-in-Err-clause-only
unfolding origin_refusal
returns-in-Err-clause-only c r h = only _ _ _ (one_origin c.args.line.now) (no_refusal c.args.line.now) c.in-Err.ensures r h
