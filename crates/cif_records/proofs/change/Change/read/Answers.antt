-- Each text was found where its row says. A line spells one change (`one_change`).
use Rattle.cif_records.proofs.{Changes.no_refusal, Changes.one_change, Judging.only, Names.change_refusal, Rows.◌&◌}
use Rattle.cif_records.proofs.change.Change.read.Goals as goal

pub returns-in-Ok-clause-exact : goal.returns-in-Ok-clause-exact
unfolding change_refusal
returns-in-Ok-clause-exact c =
    (rw c.in-Ok.ensures.0) & c.in-Ok.ensures.1 & c.text_at.ensures.found & c.text_at-in-Ok.ensures.found & c.text_at-in-Ok-2.ensures.found
    & c.text_at-in-Ok-3.ensures.found & c.text_at-in-Ok-4.ensures.found & c.text_at-in-Ok-5.ensures.found
    & c.text_at-in-Ok-6.ensures.found & c.text_at-in-Ok-7.ensures.found & c.text_at-in-Ok-8.ensures.found
    & c.text_at-in-Ok-9.ensures.found & c.text_at-in-Ok-10.ensures.found & c.text_at-in-Ok-11.ensures.found
    & c.text_at-in-Ok-12.ensures.found & c.text_at-in-Ok-13.ensures.found & c.text_at-in-Ok-14.ensures.found
    & c.text_at-in-Ok-15.ensures.found & c.text_at-in-Ok-16.ensures.found & c.text_at-in-Ok-17.ensures.found
    & c.text_at-in-Ok-18.ensures.found & c.text_at-in-Ok-19.ensures.found & c.text_at-in-Ok-20.ensures.found & tt & tt

pub returns-in-Ok-clause-only : goal.returns-in-Ok-clause-only
returns-in-Ok-clause-only c r h = only _ _ _ (one_change c.args.line.now) (no_refusal c.args.line.now) (returns-in-Ok-clause-exact c) r h
