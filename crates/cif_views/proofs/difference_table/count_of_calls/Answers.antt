-- One line more is counted (`counted-more`).
use Rattle.cif_views.proofs.Names.{is_call}
use Rattle.cif_views.proofs.DifferingFields.{counted-more}
use Rattle.cif_views.proofs.TableRows.{first-and-rest, next-call, some-lines}
use Rattle.cif_views.proofs.difference_table.count_of_calls.Goals as goal

pub loop-rest-preserved : goal.loop-rest-preserved
loop-rest-preserved c =
    let lines = c.loop-rest.rest in
    let count = c.loop-rest.count in
    let some = some-lines lines _ c.is_empty.ensures c.loop-rest-test.true in
    let is = first-and-rest lines c.first.result c.rest-rest.result some c.first.ensures c.rest-rest.ensures in record {
      total = counted-more count _ _ c.kind_of_line.result lines _ _ is c.kind_of_line.ensures c.call_after-count.ensures
          c.loop-rest.invariant.total;
      few = next-call (is_call c.kind_of_line.result) count _ _ lines _ _ is c.call_after-count.ensures c.loop-rest.invariant.few;
    }
