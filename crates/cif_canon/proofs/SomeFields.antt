-- A row has some text: its first field, as that of no other is joined with it.
use Rattle.cif_canon.proofs.Names.{List, association_fields, codes, journey_fields, length, no_association, no_train, refl, train_fields, ℕ}
use Rattle.cif_canon.proofs.Names.{AssocBody, AssocKey, BodyLines, Permanent, ◌++◌, ◌<◌, ◌∷◌}
use Rattle.cif_columns.specs.{DayDigits.yymmdd_of, DaysRun.days_columns}
use Rattle.cif_canon.specs.Rows.{association_row, schedule_row, train_row}
use Rattle.cif_rows.proofs.AddedTexts.{some-field}
use Rattle.cif_rows.specs.{Row.named, Row.text, Steps.fields_text, declared.format.Format.Format, declared.shape.Shape.TheVariants.Date}

module _ (format : Format) where
  pub association-some : (e : AssocKey × AssocBody) → 0 < length (fields_text format (association_row e))
  association-some e = some-field format (named (codes "kind") (text (codes "AA"))) (no_train ++ association_fields e) refl

  pub train-some : (e : List ℕ × BodyLines) → 0 < length (fields_text format (train_row e))
  train-some e = some-field format (named (codes "kind") (text (codes "BS"))) (train_fields e ++ no_association) refl

  pub schedule-some : (r : Permanent BodyLines) → 0 < length (fields_text format (schedule_row r))
  schedule-some r =
      some-field format (named (codes "first_date") (Date, yymmdd_of r.first))
      (named (codes "last_date") (Date, yymmdd_of r.last) ∷ named (codes "days_run") (text (days_columns r.days)) ∷ journey_fields r.body) refl
