-- Three parts are appended one behind another (`differences-appended`).
use Rattle.cif_canon.proofs.{AppendedTexts.answered, AppendedTexts.text-is, Names.ap, Names.differences_text}
use Rattle.cif_canon.proofs.{WrittenDifferences.differences-appended}
use Rattle.cif_canon.proofs.listed_differences.Differences.write.Goals as goal

pub returns-clause-writes : goal.returns-clause-writes
unfolding differences_text
returns-clause-writes g c =
    let e = c.self.inside in
    answered _ _ _ _ _ c.answer.result c.answer.ensures.ok c.answer.ensures.failed
    (text-is _ _ _ _ _ _ (ap differences_text c.self.view_is)
    (differences-appended _ _ e.tiplocs.items e.left.now.associations.items e.right.now.associations.items e.associations.items
    e.left.now.schedules.items e.right.now.schedules.items e.schedules.items _ _ _ _
    (rw c.as_slice.ensures.value at c.write_each.ensures)
    (rw (c.as_slice-2.ensures.value, c.as_slice-3.ensures.value, c.as_slice-4.ensures.value) at c.write_sided_runs.ensures)
    (rw (c.as_slice-5.ensures.value, c.as_slice-6.ensures.value, c.as_slice-7.ensures.value) at c.write_sided_runs-2.ensures)))
