-- Each value was found where its row says. A line spells one record of further details (`one_extra`).
use Rattle.cif_records.proofs.{Extras.no_refusal, Extras.one_extra, Judging.only, Names.extra_refusal, Rows.◌&◌}
use Rattle.cif_records.proofs.extra.Extra.read.Goals as goal

pub returns-in-Ok-clause-exact : goal.returns-in-Ok-clause-exact
unfolding extra_refusal
returns-in-Ok-clause-exact c =
    (rw c.in-Ok.ensures.0) & c.in-Ok.ensures.1 & c.text_at.ensures.found & c.text_at-in-Ok.ensures.found & c.text_at-in-Ok-2.ensures.found
    & c.text_at-in-Ok-3.ensures.found & c.text_at-in-Ok-4.ensures.found & c.text_at-in-Ok-5.ensures.found & tt & tt

pub returns-in-Ok-clause-only : goal.returns-in-Ok-clause-only
returns-in-Ok-clause-only c r h = only _ _ _ (one_extra c.args.line.now) (no_refusal c.args.line.now) (returns-in-Ok-clause-exact c) r h
