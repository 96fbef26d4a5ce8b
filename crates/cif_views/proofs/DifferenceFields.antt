-- The fields of the rows of differences, by what they begin with.
use Rattle.cif_views.proofs.Names.{List, Option, Side, [], codes, decimal, difference_names, differing_row, drop, head_values, length, place_names}
use Rattle.cif_views.proofs.Names.{place_values, refl, row_of_counts, single_row, ℕ, ◌++◌, ◌<◌, ◌∷◌, ◌≡◌}
use Rattle.cif_views.proofs.Names.{change_on}
use Rattle.cif_views.proofs.RowNames.{Field, Format, Value, all_named, fields_text, named, nothing, some-field, text}
use Rattle.cif_views.specs.declared.difference_table.{Place.Place, Place.TheVariants.Journey, Place.TheVariants.Record}
use Rattle.cif_views.specs.declared.difference_table.{RecordKind.RecordKind, RecordKind.TheVariants.Association}
use Rattle.cif_views.specs.declared.difference_table.RecordKind.TheVariants.{Schedule, Tiploc}

abbrev pub head_fields : RecordKind → Option Side → List ℕ → List Field
head_fields kind side line = all_named difference_names (head_values kind side line)

abbrev pub place_fields : Place → List Field
place_fields place = all_named place_names (place_values place)

-- the fields behind the days run, where a record has none of them
abbrev pub no_place : List Field
no_place = named (codes "call") nothing ∷ named (codes "record") nothing ∷ named (codes "place") nothing ∷ []

abbrev pub said_last : List ℕ → Value → Value → List Field
said_last name left right = named (codes "field") (text name) ∷ named (codes "left") left ∷ named (codes "right") right ∷ []

module _ (side : Option Side) (line : List ℕ) where
  pub field-row : (kind : RecordKind) (place : Place) (name : List ℕ) (left right : Value) →
      all_named difference_names (differing_row (head_values kind side line ++ place_values place) name left right)
      ≡ head_fields kind side line ++ (place_fields place ++ said_last name left right)
  field-row Tiploc (Record identity) name left right = refl
  field-row Tiploc (Journey call own) name left right = refl
  field-row Association (Record identity) name left right = refl
  field-row Association (Journey call own) name left right = refl
  field-row Schedule (Record identity) name left right = refl
  field-row Schedule (Journey call own) name left right = refl

  pub count-row : (kind : RecordKind) (one other : ℕ) →
      all_named difference_names (row_of_counts (head_values kind side line) one other)
      ≡ head_fields kind side line ++ (no_place ++ said_last (codes "journey") (text (decimal one)) (text (decimal other)))
  count-row Tiploc one other = refl
  count-row Association one other = refl
  count-row Schedule one other = refl

  abbrev pub nothing_last : List Field
  nothing_last = named (codes "field") nothing ∷ named (codes "left") nothing ∷ named (codes "right") nothing ∷ []

  pub single : (kind : RecordKind) →
      all_named difference_names (single_row (head_values kind side line)) ≡ head_fields kind side line ++ (no_place ++ nothing_last)
  single Tiploc = refl
  single Association = refl
  single Schedule = refl

  -- each begins with the change
  pub some-head : (format : Format) (kind : RecordKind) (more : List Field) →
      0 < length (fields_text format (head_fields kind side line ++ more))
  some-head format Tiploc more = some-field format (named (codes "change") (change_on side)) (drop 1 (head_fields Tiploc side line ++ more)) refl
  some-head format Association more =
      some-field format (named (codes "change") (change_on side)) (drop 1 (head_fields Association side line ++ more)) refl
  some-head format Schedule more =
      some-field format (named (codes "change") (change_on side)) (drop 1 (head_fields Schedule side line ++ more)) refl
