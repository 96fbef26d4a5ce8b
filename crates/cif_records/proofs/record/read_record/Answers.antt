-- `only`: a line spells one record (`one_record`, by its kind), and none where there is a reason to refuse it (`no_refusal`).
use Rattle.cif_records.proofs.Names.{IsJudged, SpellsRecord, subst, sym, ◌∙◌}
use Rattle.cif_records.proofs.{Judging.only, Records.no_refusal, Records.one_record, Records.refusal-kind}
use Rattle.cif_records.proofs.record.read_record.Goals as goal

pub returns-in-Some-clause-exact : goal.returns-in-Some-clause-exact
returns-in-Some-clause-exact c =
    let line = c.args.line.now in
    subst (λ refusal. IsJudged refusal (SpellsRecord line) c.read_as.result)
    (sym (refusal-kind line c.in-Some.kind (sym c.kind_of.ensures.kind ∙ c.in-Some.is))) c.read_as.ensures

pub returns-in-Some-clause-only : goal.returns-in-Some-clause-only
returns-in-Some-clause-only c r h =
    only _ _ _ (one_record c.args.line.now) (no_refusal c.args.line.now) (returns-in-Some-clause-exact c) r h
