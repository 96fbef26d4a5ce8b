-- A run with a record has a schedule with a body (`has-body`).
use Rattle.cif_canon.proofs.Names.{Schedule, ap, schedule_entry, ◌∙◌}
use Rattle.cif_canon.proofs.RunTexts.{body-of, has-body, record-within}
use Rattle.cif_canon.proofs.canonical_form.body_of.Goals as goal

pub returns : goal.returns
returns c =
    body-of c.args.schedules.now c.args.run.now.source c.index-schedules-run.result
    (record-within schedule_entry c.args.schedules.now c.args.run.now c.requires) c.index-schedules-run.is
    ∙ ap (λ (s : Schedule). s.body) c.index-schedules-run.is ∙ c.in-Some.is

pub unreachable-requires : goal.unreachable-requires
unreachable-requires c =
    has-body schedule_entry c.args.schedules.now c.args.run.now c.index-schedules-run.result c.requires c.index-schedules-run.is
    (ap (λ (s : Schedule). s.body) c.index-schedules-run.is ∙ c.in-None.is)
