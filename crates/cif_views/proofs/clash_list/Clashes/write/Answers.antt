-- The lines of the clashes are appended, and the sink tells whether it failed (`answered`).
use Rattle.cif_views.proofs.Names.{answered}
use Rattle.cif_views.proofs.clash_list.Clashes.write.Goals as goal

pub returns-clause-writes : goal.returns-clause-writes
returns-clause-writes g c =
    answered _ _ _ _ _ c.answer.result c.answer.ensures.ok c.answer.ensures.failed
    (rw (c.as_slice.ensures.value, c.self.view_is) at c.write_clashes.ensures)
