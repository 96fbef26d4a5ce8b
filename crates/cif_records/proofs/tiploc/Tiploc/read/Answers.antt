-- Each value was found where its row says. A line spells one location (`one_tiploc`).
use Rattle.cif_records.proofs.{Judging.only, Names.sym, Names.tiploc_refusal, Rows.◌&◌, Tiplocs.no_refusal, Tiplocs.one_tiploc}
use Rattle.cif_records.proofs.tiploc.Tiploc.read.Goals as goal

pub returns-in-Ok-clause-exact : goal.returns-in-Ok-clause-exact
unfolding tiploc_refusal
returns-in-Ok-clause-exact c = (rw c.in-Ok.ensures.0) & c.in-Ok.ensures.1 & sym c.columns_at.ensures.value & tt & tt

pub returns-in-Ok-clause-only : goal.returns-in-Ok-clause-only
returns-in-Ok-clause-only c r h = only _ _ _ (one_tiploc c.args.line.now) (no_refusal c.args.line.now) (returns-in-Ok-clause-exact c) r h
