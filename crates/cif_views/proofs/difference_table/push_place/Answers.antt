-- Three fields, by the place.
use Rattle.cif_views.proofs.Names.{List, ap, codes, ℕ}
use Rattle.cif_views.proofs.RowNames.{added-is, field_text, named, text, three-fields}
use Rattle.cif_views.specs.Tables.{text_at}
use Rattle.cif_views.proofs.difference_table.push_place.Goals as goal

pub returns-in-Record : goal.returns-in-Record
returns-in-Record g c =
    rw c.in-Record.is
    (three-fields _ _ g.F.RowFormat.FORMAT _ _ _ _ _ _ _ _ _ _ _ c.push_nothing.ensures c.push_text.ensures c.push_nothing-in-Record.ensures)

pub returns-in-Journey : goal.returns-in-Journey
returns-in-Journey g c =
    let f = g.F.RowFormat.FORMAT in
    let line = c.in-Journey.line in
    rw c.in-Journey.is
    (three-fields _ _ f _ (named (codes "record") (text_at 1 2 line)) (named (codes "place") (text_at 3 9 line)) _ _ _ _ _ _ _ _
    c.push_number.ensures
    (added-is _ _ _ _ _ _ _ _ (ap (λ (l : List ℕ). field_text f (named (codes "record") (text l))) c.columns_at-identity.ensures.value)
    c.push.ensures)
    (added-is _ _ _ _ _ _ _ _ (ap (λ (l : List ℕ). field_text f (named (codes "place") (text l))) c.columns_at-location.ensures.value)
    c.push-in-Journey.ensures))
