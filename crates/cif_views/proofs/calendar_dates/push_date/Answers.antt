-- Four fields are the row of a date (`row-added`).
use Rattle.cif_views.proofs.Names.{List, [], ap, character, codes, refl, yymmdd_of, ℕ, ◌∷◌}
use Rattle.cif_views.proofs.RowNames.{Date, Field, Whole, added-is, field-added, field_text, fields-added, named, row-added, some-field}
use Rattle.cif_views.proofs.RowNames.{text, three-fields}
use Rattle.cif_views.specs.DateCalendar.{date_row, runs}
use Rattle.cif_views.proofs.calendar_dates.push_date.Goals as goal

pub returns : goal.returns
returns g c =
    let f = g.F.RowFormat.FORMAT in
    let uid : Field = named (codes "uid") (Whole, c.args.uid.now) in
    let date : Field = named (codes "date") (Date, yymmdd_of c.args.day) in
    let mark : Field = named (codes "mark") (text (character c.args.state ∷ [])) in
    let runs_on : Field = named (codes "runs") (runs c.args.state) in
    let first = added-is _ _ _ (field_text f uid) _ _ _ _
    (ap (λ (l : List ℕ). field_text f (named (codes "uid") (Whole, l))) c.write.ensures.columns) c.push.ensures in
    let second = added-is _ _ _ (field_text f date) _ _ _ _
    (ap (λ (l : List ℕ). field_text f (named (codes "date") (Date, l))) c.to_yymmdd.ensures.columns) c.push-2.ensures in
    let third = added-is _ _ _ (field_text f mark) _ _ _ _
    (ap (λ (b : ℕ). field_text f (named (codes "mark") (text (b ∷ [])))) c.character.ensures) c.push-3.ensures in
    let all = fields-added _ _ f (uid ∷ date ∷ mark ∷ []) (runs_on ∷ []) _ _ _ _ _ _
    (three-fields _ _ f uid date mark _ _ _ _ _ _ _ _ first second third) (field-added _ _ f runs_on _ _ _ _ c.push_runs.ensures) in
    row-added _ _ f (date_row c.args.uid.now c.args.day c.args.state) _ _ _ _ _ _ _ _ (some-field f uid (date ∷ mark ∷ runs_on ∷ []) refl)
    c.begin_row.ensures all c.end_row.ensures
