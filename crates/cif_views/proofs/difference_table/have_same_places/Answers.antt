-- The first places are the same, and so may the rests be; or they are others (`firsts-tested`).
use Rattle.cif_views.proofs.Names.{ap₂, false, not-false, same_places, sym, true, ◌∙◌}
use Rattle.std.proofs.lemmas.Bool.{not-true}
use Rattle.cif_views.proofs.DifferingFields.{firsts-tested}
use Rattle.cif_views.proofs.TableRows.{some-lines}
use Rattle.cif_views.proofs.difference_table.have_same_places.Goals as goal

pub loop-lefts-preserved : goal.loop-lefts-preserved
loop-lefts-preserved c =
    let some = some-lines c.loop-lefts.lefts _ c.is_empty.ensures c.loop-lefts-test.true in
    let more = some-lines c.loop-lefts.rights _ c.is_empty-in-loop-lefts.ensures c.if-is_empty.false in
    c.loop-lefts.invariant
    ∙ firsts-tested _ _ _ _ _ _ true some more c.first.ensures c.first-in-loop-lefts.ensures c.columns_at.ensures.value
    c.columns_at-in-loop-lefts.ensures.value (not-false _ (sym c.ne.ensures ∙ c.if-ne.false))
    ∙ ap₂ same_places (sym c.rest-lefts.ensures) (sym c.rest-rights.ensures)

pub returns-then-ne : goal.returns-then-ne
returns-then-ne c =
    let some = some-lines c.loop-lefts.lefts _ c.is_empty.ensures c.loop-lefts-test.true in
    let more = some-lines c.loop-lefts.rights _ c.is_empty-in-loop-lefts.ensures c.if-is_empty.false in
    sym (c.loop-lefts.invariant
    ∙ firsts-tested _ _ _ _ _ _ false some more c.first.ensures c.first-in-loop-lefts.ensures c.columns_at.ensures.value
    c.columns_at-in-loop-lefts.ensures.value (not-true _ (sym c.ne.ensures ∙ c.if-ne.true)))
