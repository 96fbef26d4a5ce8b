-- A record has the text by the answer whether it applies (`listed-by`); one that doesn't apply has none.
use Rattle.cif_canon.proofs.{AppendedTexts.nothing, AppendedTexts.text-is, RunningRecords.listed-by}
use Rattle.cif_canon.proofs.views.OnDayTextsCanonRecordUidBody.write.Goals as goal

pub returns-then-applies_on : goal.returns-then-applies_on
returns-then-applies_on g c =
    let e = c.item.inside in
    text-is _ _ _ _ _ _ (listed-by (g.L.DayLines.train c.args.self.now.lines.now) e.key.now e.run.now e.body.now
    c.args.self.now.day _ _ c.if-applies_on.true c.applies_on.ensures _ c.item.view_is) c.write_train.ensures

pub returns-else-applies_on : goal.returns-else-applies_on
returns-else-applies_on g c =
    let e = c.item.inside in
    text-is _ _ _ _ _ _ (listed-by (g.L.DayLines.train c.args.self.now.lines.now) e.key.now e.run.now e.body.now
    c.args.self.now.day _ _ c.if-applies_on.false c.applies_on.ensures _ c.item.view_is) (nothing _ _ _)
