-- Each value was found where its row says. A line spells one last location (`one_terminus`), and none if it is refused.
use Rattle.cif_records.proofs.{Judging.only, Names.terminus_refusal, Rows.◌&◌, Termini.no_refusal, Termini.one_terminus}
use Rattle.cif_records.proofs.terminus.Terminus.read.Goals as goal

pub returns-in-Ok-clause-exact : goal.returns-in-Ok-clause-exact
unfolding terminus_refusal
returns-in-Ok-clause-exact c =
    c.in-Ok.ensures.0 & c.in-Ok.ensures.1.0 & c.text_at.ensures.found & c.text_at-in-Ok.ensures.found & c.in-Ok.ensures.1.1
    & c.in-Ok.ensures.1.2 & c.text_at-in-Ok-2.ensures.found & c.text_at-in-Ok-3.ensures.found & c.activities_at.ensures.found & tt & tt

pub returns-in-Ok-clause-only : goal.returns-in-Ok-clause-only
returns-in-Ok-clause-only c r h = only _ _ _ (one_terminus c.args.line.now) (no_refusal c.args.line.now) (returns-in-Ok-clause-exact c) r h

pub returns-in-Err-clause-only : goal.returns-in-Err-clause-only
unfolding terminus_refusal
returns-in-Err-clause-only c r h = only _ _ _ (one_terminus c.args.line.now) (no_refusal c.args.line.now) c.in-Err.ensures r h
