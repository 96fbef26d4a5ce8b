-- Journeys with other places have one row, with the numbers of their calls; others have the rows of their places.
use Rattle.cif_views.proofs.Names.{Bool, List, [], ap, append-nil, codes, cond, count_of_calls, decimal, difference_text, false, head_of}
use Rattle.cif_views.proofs.Names.{row_of_counts, rows_of_journeys, rows_of_places, rows_text, same_places, sym, true, ℕ, ◌++◌}
use Rattle.cif_views.proofs.Names.{◌∙◌, ◌∷◌, ◌≡◌}
use Rattle.cif_views.proofs.DifferenceFields.{count-row, head_fields, no_place, said_last, some-head}
use Rattle.cif_views.proofs.RowNames.{Value, added-is, fields-added, named, row-added, row_text, text, three-fields}
use Rattle.cif_views.proofs.difference_table.write_journeys.Goals as goal

by-places : (head : List Value) (lefts rights : List (List ℕ)) (same : Bool) → same_places lefts rights ≡ same →
    cond same (rows_of_places head 1 lefts rights) (row_of_counts head (count_of_calls lefts) (count_of_calls rights) ∷ [])
    ≡ rows_of_journeys head lefts rights
by-places head lefts rights same is =
    ap (λ s. cond s (rows_of_places head 1 lefts rights) (row_of_counts head (count_of_calls lefts) (count_of_calls rights) ∷ [])) (sym is)

pub returns-then-have_same_places : goal.returns-then-have_same_places
returns-then-have_same_places g c =
    let head = head_of c.args.head.now in
    added-is _ _ _ _ _ _ _ _
    (ap (rows_text g.F.RowFormat.FORMAT)
    ((λ i. rows_of_places head 1 (c.copy.ensures i) (c.copy-then-have_same_places.ensures i))
    ∙ by-places head c.args.left.now c.args.right.now true (sym c.have_same_places.ensures ∙ c.if-have_same_places.true)))
    c.write_places.ensures

pub returns : goal.returns
returns g c =
    let f = g.F.RowFormat.FORMAT in
    let h = c.args.head.now in
    let left = c.args.left.now in
    let right = c.args.right.now in
    let other : same_places left right ≡ false = sym c.have_same_places.ensures ∙ c.if-have_same_places.false in
    let one = text (decimal c.count_of_calls.result) in
    let two = text (decimal c.count_of_calls-2.result) in
    let head = head_fields h.kind h.side h.line in
    let last = said_last (codes "journey") one two in
    let place = three-fields _ _ f _ _ _ _ _ _ _ _ _ _ _ c.push_nothing.ensures c.push_nothing-2.ensures c.push_nothing-3.ensures in
    let more = three-fields _ _ f _ (named (codes "left") one) (named (codes "right") two) _ _ _ _ _ _ _ _ c.push_text.ensures
    c.push_count.ensures c.push_count-2.ensures in
    let all = fields-added _ _ f head (no_place ++ last) _ _ _ _ _ _ c.push_head.ensures
    (fields-added _ _ f no_place last _ _ _ _ _ _ place more) in
    added-is _ _ _ _ _ _ _ _
    (ap (row_text f) (sym (count-row h.side h.line h.kind c.count_of_calls.result c.count_of_calls-2.result))
    ∙ (λ i. difference_text f (row_of_counts (head_of h) (c.count_of_calls.ensures i) (c.count_of_calls-2.ensures i)))
    ∙ sym (append-nil _)
    ∙ ap (rows_text f) (by-places (head_of h) left right false other))
    (row-added _ _ f (head ++ (no_place ++ last)) _ _ _ _ _ _ _ _ (some-head h.side h.line f h.kind (no_place ++ last)) c.begin_row.ensures
    all c.end_row.ensures)
