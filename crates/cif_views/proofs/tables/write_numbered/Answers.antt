-- The table has a row of the line (`row-added`), or none.
use Rattle.cif_views.proofs.Names.{Bool, JourneyKind, List, [], ap, append-nil, codes, cond, fields_in, flat_map, has_row, journey_columns}
use Rattle.cif_views.proofs.Names.{refl, row_of_kind, sym, ℕ, ◌∙◌, ◌∷◌, ◌≡◌}
use Rattle.cif_views.proofs.RowNames.{Field, Number, added-is, added-waits, field-added, fields-added, named, number_field, row-added, row_text}
use Rattle.cif_views.proofs.RowNames.{some-field}
use Rattle.cif_views.proofs.tables.write_numbered.Goals as goal

abbrev row : Bool → List ℕ → ℕ → JourneyKind → List ℕ → List Field
row calls schedule call kind line =
    named (codes "schedule") (Number, schedule) ∷ number_field (codes "call") call ∷ fields_in kind (journey_columns calls) line

own-rows : (calls has : Bool) (schedule : List ℕ) (call : ℕ) (kind there : JourneyKind) (line : List ℕ) → has ≡ has_row calls kind →
    kind ≡ there → cond has (row calls schedule call kind line ∷ []) [] ≡ row_of_kind calls schedule call there line
own-rows calls has schedule call kind there line is kind_is =
    ap (λ h. cond h (row calls schedule call kind line ∷ []) []) is ∙ ap (λ k. row_of_kind calls schedule call k line) kind_is

pub returns-then-has_row-clause-row : goal.returns-then-has_row-clause-row
returns-then-has_row-clause-row g c =
    let f = g.F.RowFormat.FORMAT in
    let calls = c.args.calls in
    let kind = c.kind_of_line-kind.result in
    let line = c.args.line.now in
    let own = row calls c.args.schedule.now c.args.call kind line in
    let n : Field = named (codes "schedule") (Number, c.args.schedule.now) in
    let k : Field = number_field (codes "call") c.args.call in
    let others = fields_in kind (journey_columns calls) line in
    let fields = fields-added _ _ f (n ∷ []) (k ∷ others) _ _ _ _ _ _ (field-added _ _ f n _ _ _ _ c.push_numeral.ensures)
    (fields-added _ _ f (k ∷ []) others _ _ _ _ _ _ (field-added _ _ f k _ _ _ _ c.push_number.ensures) c.push_journey.ensures) in
    added-is _ _ _ _ _ _ _ _
    (sym (append-nil (row_text f own))
    ∙ ap (flat_map (row_text f)) (own-rows calls _ c.args.schedule.now c.args.call kind _ line c.if-has_row.ensures c.kind_of_line-kind.ensures))
    (row-added _ _ f own _ _ _ _ _ _ _ _ (some-field f n (k ∷ others) refl) c.begin_row.ensures fields c.end_row.ensures)

pub returns-else-has_row-clause-row : goal.returns-else-has_row-clause-row
returns-else-has_row-clause-row g c =
    let f = g.F.RowFormat.FORMAT in
    let calls = c.args.calls in
    let kind = c.kind_of_line-kind.result in
    let line = c.args.line.now in
    added-is _ _ _ _ _ _ _ _
    (ap (flat_map (row_text f)) (own-rows calls _ c.args.schedule.now c.args.call kind _ line c.if-has_row.ensures c.kind_of_line-kind.ensures))
    (added-waits _ _ [] _ _ _ (sym (append-nil _)))
