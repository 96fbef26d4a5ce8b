-- The row of a public call (`row-added`), and the step is that of the line (`step-is`).
use Rattle.cif_views.proofs.Names.{List, Shown, [], append-nil, ap, codes, drop, flat_map, length, names, public_fields, public_values, refl, sym, ℕ, ◌<◌, ◌∙◌}
use Rattle.cif_views.proofs.PublicRows.{same-row, step-is}
use Rattle.cif_views.proofs.RowNames.{Format, Number, added-is, added-waits, all_named, fields_text, named, row-added, row_text, some-field}
use Rattle.cif_views.proofs.public_calls.write_step.Goals as goal

some-public : (f : Format) (schedule : List ℕ) (call : ℕ) (line : List ℕ) (shown : Shown) →
    0 < length (fields_text f (all_named (names public_fields) (public_values schedule call line shown)))
some-public f schedule call line shown =
    some-field f (named (codes "schedule") (Number, schedule)) (drop 1 (all_named (names public_fields) (public_values schedule call line shown))) refl

pub returns-in-Some-clause-row : goal.returns-in-Some-clause-row
returns-in-Some-clause-row g c =
    let f = g.F.RowFormat.FORMAT in
    let own = all_named (names public_fields) (public_values c.args.schedule.now c.args.call c.args.line.now c.in-Some.shown) in
    added-is _ _ _ _ _ _ _ _
    (sym (append-nil (row_text f own)) ∙ ap (flat_map (row_text f)) (same-row c.args.schedule.now c.args.call c.args.journey.now _ c.args.line.now _
    (step-is _ _ _ _ _ _ c.kind_of_line-kind.ensures c.of-times.ensures c.in-Some.ensures.exact)))
    (row-added _ _ f own _ _ _ _ _ _ _ _ (some-public f c.args.schedule.now c.args.call c.args.line.now c.in-Some.shown) c.begin_row.ensures c.push_public_call.ensures c.end_row.ensures)

pub returns-in_default-clause-row : goal.returns-in_default-clause-row
returns-in_default-clause-row g c =
    added-is _ _ _ _ _ _ _ _
    (ap (flat_map (row_text g.F.RowFormat.FORMAT)) (same-row c.args.schedule.now c.args.call c.args.journey.now _ c.args.line.now _
    (step-is _ _ _ _ _ _ c.kind_of_line-kind.ensures c.of-times.ensures c.in_default.ensures.exact)))
    (added-waits _ _ [] _ _ _ (sym (append-nil _)))
