-- The detail that was read is the one that stands in the line.
use Rattle.cif_records.proofs.Names.{AllStandIn, ap, detail_table, plain_line, subst, ◌∙◌}
use Rattle.cif_records.proofs.detail.Detail.plain_line_of.Goals as goal

pub returns-clause-plain : goal.returns-clause-plain
returns-clause-plain c = c.write.ensures.plain ∙ ap (λ d. plain_line (detail_table d)) c.read.ensures.exact

pub returns-clause-again : goal.returns-clause-again
returns-clause-again c = subst (λ d. AllStandIn c.write.result (detail_table d)) c.read.ensures.exact c.write.ensures.again
