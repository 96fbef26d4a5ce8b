use Rattle.cif_weeks.proofs.Names.{rules, sym}
use Rattle.cif_weeks.proofs.few.is_added.Goals as goal

pub returns-then-other-span : goal.returns-then-other-span
returns-then-other-span c body =
    (c.other-item.result, (c.loop-other.other-index, c.loop-other-test.true, sym c.other-item.is), search rules, c.if-other-span.true)
