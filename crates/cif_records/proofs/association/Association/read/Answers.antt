-- Each field was found where its row says. A line spells one association (`one_association`), and none if it is refused.
use Rattle.cif_records.proofs.{Associations.no_refusal, Associations.one_association, Judging.only, Rows.◌&◌}
use Rattle.cif_records.proofs.association.Association.read.Goals as goal

pub returns-in-Ok-clause-exact : goal.returns-in-Ok-clause-exact
returns-in-Ok-clause-exact c =
    let found = c.in-Ok.ensures.1 in
    let key = c.read.ensures in
    let body = c.body_at.ensures.spells in
    c.in-Ok.ensures.0 & found.0 & found.1 & key.base & key.associated & found.2 & found.3 & found.4 & body.category & body.date_indicator
    & key.location & key.base_suffix & key.associated_suffix & body.diagram & body.kind & tt & found.5 & tt

pub returns-in-Ok-clause-only : goal.returns-in-Ok-clause-only
returns-in-Ok-clause-only c r h =
    only _ _ _ (one_association c.args.line.now) (no_refusal c.args.line.now) (returns-in-Ok-clause-exact c) r h

pub returns-in-Err-clause-only : goal.returns-in-Err-clause-only
returns-in-Err-clause-only c r h = only _ _ _ (one_association c.args.line.now) (no_refusal c.args.line.now) c.in-Err.ensures r h
