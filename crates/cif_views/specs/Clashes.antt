-- All clashes of an extract, the lines that name them, and their table.
pub use Rattle.cif_calendar.specs.AllClashes.{AreAllClashes}
use Rattle.std.specs.{List.flat_map, Prelude.List, Prelude.[], Prelude.codes, Prelude.ℕ, Prelude.◌++◌, Prelude.◌∷◌}
use Rattle.cif_columns.specs.{DayDigits.yymmdd_of, Text.left_justified}
use Rattle.cif_extract.specs.Clash.{clash_text}
use Rattle.cif_extract.specs.declared.{fault.Clash.Clash, fault.Clash.TheVariants.Association, fault.Clash.TheVariants.Train}
use Rattle.cif_records.specs.declared.association.AssocKey.{AssocKey}
use Rattle.cif_rows.specs.{Row.Field, Row.Value, Row.all_named, Row.heading_text, Row.nothing, Row.row_text, Row.text}
use Rattle.cif_rows.specs.declared.{format.Format.Format, shape.Shape.TheVariants.Date, shape.Shape.TheVariants.Whole}

-- the line of a clash: what the fault line of a clash says of it, with its line feed
unfoldable pub clash_line : Clash → List ℕ
clash_line clash = clash_text clash ++ codes "\n"

-- the text of clashes: a line for each
abbrev pub clashes_text : List Clash → List ℕ
clashes_text = flat_map clash_line

-- the fields of the table
abbrev pub clash_names : List (List ℕ)
clash_names =
    codes "kind" ∷ codes "uid" ∷ codes "base_uid" ∷ codes "associated_uid" ∷ codes "location" ∷ codes "base_suffix"
    ∷ codes "associated_suffix" ∷ codes "date" ∷ []

-- what they say of two associations of one key, and of two schedules of one train
abbrev pub association_values : AssocKey → ℕ → List Value
association_values key day =
    text (codes "AA") ∷ nothing ∷ (Whole, key.base) ∷ (Whole, key.associated) ∷ text (left_justified 7 key.location)
    ∷ text (left_justified 1 key.base_suffix) ∷ text (left_justified 1 key.associated_suffix) ∷ (Date, yymmdd_of day) ∷ []

abbrev pub train_values : List ℕ → ℕ → List Value
train_values uid day =
    text (codes "BS") ∷ (Whole, uid) ∷ nothing ∷ nothing ∷ nothing ∷ nothing ∷ nothing ∷ (Date, yymmdd_of day) ∷ []

-- the row of a clash
abbrev pub clash_row : Clash → List Field
clash_row (Association key day) = all_named clash_names (association_values key day)
clash_row (Train uid day) = all_named clash_names (train_values uid day)

-- the table: the names of the fields, and a row for each clash
unfoldable pub clash_table : Format → List Clash → List ℕ
clash_table format clashes = heading_text format clash_names ++ flat_map (λ clash. row_text format (clash_row clash)) clashes
