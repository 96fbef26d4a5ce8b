-- Seven fields are the row of a schedule and its dates.
use Rattle.cif_feed.proofs.Names.{List, [], ap, codes, refl, ℕ, ◌∷◌}
use Rattle.cif_columns.specs.{DayDigits.yymmdd_of, DaysRun.days_columns, Stp.letter}
use Rattle.cif_rows.proofs.AddedTexts.{added-is, field-added, fields-added, row-added, some-field, three-fields}
use Rattle.cif_rows.specs.{Row.Field, Row.all_named, Row.named, Row.text, Steps.field_text}
use Rattle.cif_rows.specs.declared.shape.Shape.TheVariants.{Date, Whole}
use Rattle.cif_feed.specs.{Steps.Deciding.as_record, Winners.last_value, Winners.winner_names, Winners.winner_values}
use Rattle.cif_feed.proofs.winners.push_winner.Goals as goal

pub returns : goal.returns
returns g c =
    let f = g.F.RowFormat.FORMAT in
    let s = c.args.one.now.schedule in
    let run = c.args.run.now in
    let uid : Field = named (codes "uid") (Whole, s.uid) in
    let first : Field = named (codes "first_date") (Date, yymmdd_of s.first) in
    let last : Field = named (codes "last_date") (last_value c.args.one.now) in
    let stp : Field = named (codes "stp_indicator") (text (letter s.letter ∷ [])) in
    let from : Field = named (codes "wins_from") (Date, yymmdd_of run.first) in
    let to : Field = named (codes "wins_to") (Date, yymmdd_of run.last) in
    let days : Field = named (codes "days_run") (text (days_columns run.days)) in
    let train = added-is _ _ _ (field_text f uid) _ _ _ _
    (ap (λ (l : List ℕ). field_text f (named (codes "uid") (Whole, l))) c.write.ensures.columns) c.push.ensures in
    let begin = added-is _ _ _ (field_text f first) _ _ _ _
    (ap (λ (l : List ℕ). field_text f (named (codes "first_date") (Date, l))) c.to_yymmdd.ensures.columns) c.push-2.ensures in
    let letters = added-is _ _ _ (field_text f stp) _ _ _ _
    (ap (λ (b : ℕ). field_text f (named (codes "stp_indicator") (text (b ∷ [])))) c.write-2.ensures.columns) c.push-3.ensures in
    let wins = added-is _ _ _ (field_text f from) _ _ _ _
    (ap (λ (l : List ℕ). field_text f (named (codes "wins_from") (Date, l))) c.to_yymmdd-2.ensures.columns) c.push-4.ensures in
    let upto = added-is _ _ _ (field_text f to) _ _ _ _
    (ap (λ (l : List ℕ). field_text f (named (codes "wins_to") (Date, l))) c.to_yymmdd-3.ensures.columns) c.push-5.ensures in
    let mask = added-is _ _ _ (field_text f days) _ _ _ _
    (ap (λ (l : List ℕ). field_text f (named (codes "days_run") (text l))) c.write-3.ensures.columns) c.push-6.ensures in
    let all = fields-added _ _ f (uid ∷ first ∷ last ∷ []) (stp ∷ from ∷ to ∷ days ∷ []) _ _ _ _ _ _
    (three-fields _ _ f uid first last _ _ _ _ _ _ _ _ train begin c.push_last.ensures)
    (fields-added _ _ f (stp ∷ from ∷ to ∷ []) (days ∷ []) _ _ _ _ _ _
    (three-fields _ _ f stp from to _ _ _ _ _ _ _ _ letters wins upto) (field-added _ _ f days _ _ _ _ mask)) in
    row-added _ _ f (all_named winner_names (winner_values c.args.one.now (as_record run))) _ _ _ _ _ _ _ _
    (some-field f uid (first ∷ last ∷ stp ∷ from ∷ to ∷ days ∷ []) refl) c.begin_row.ensures all c.end_row.ensures
