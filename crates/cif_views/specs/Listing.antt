-- What is listed of a day and of a train: rows, with or without the calls of trains.
use Rattle.std.specs.Prelude.{ℕ, List, ◌∷◌, [], ◌++◌, codes, if◌then◌else◌, map}
use Rattle.std.specs.List.{flat_map}
use Rattle.cif_columns.specs.DayDigits.{yymmdd_of}
use Rattle.cif_extract.specs.{Body.BodyLines, ExtractParts.ExtractParts}
use Rattle.cif_records.specs.declared.{association.AssocBody.AssocBody, association.AssocKey.AssocKey}
use Rattle.cif_weeks.specs.{Permanent.Permanent, declared.form.Form.Form}
use Rattle.cif_rows.specs.Row.{Field, Value, absent, heading_text, hidden, row_text, row_with_calls}
use Rattle.cif_rows.specs.declared.format.Format.{Format}
use Rattle.cif_rows.specs.declared.format.Format.TheVariants.{Json, Text, Tsv}
use Rattle.cif_rows.specs.declared.shape.Shape.TheVariants.{Date, Whole}
use Rattle.cif_canon.specs.Rows.{association_names, association_row, journey_names, schedule_row, train_row}
use Rattle.cif_canon.specs.Views.{DayTexts, IsDayListed, IsTrainListed, TrainTexts}
use Rattle.cif_views.specs.{Calls.listed_fields, Calls.call_names, Calls.calls_in, Calls.nested_fields, declared.listing.Listing.Listing}

-- what the rows of a table begin with: the date of a day, and the UID of a train
abbrev pub date_field : ℕ → Field
date_field d = hidden (codes "date") (Date, yymmdd_of d)

abbrev pub uid_field : List ℕ → Field
uid_field uid = hidden (codes "uid") (Whole, uid)

-- A row with calls is a line of text, with a line for each call below it; in a table it is repeated before each call, and in JSON it has
-- them as a list.
abbrev pub with_calls : Format → List Field → List (List Value) → List ℕ
with_calls Text row calls = row_text Text row ++ flat_map (λ call. row_text Text (listed_fields call)) calls
with_calls Tsv row calls = flat_map (λ call. row_text Tsv (row ++ listed_fields call)) calls
with_calls Json row calls = row_with_calls row (map nested_fields calls)

-- An association has no calls: in a table the fields of a call are empty.
abbrev pub without_calls : Format → List Field → List ℕ
without_calls Text row = row_text Text row
without_calls Tsv row = row_text Tsv (row ++ map absent call_names)
without_calls Json row = row_with_calls row []

-- what is listed of an association that holds, of a train that runs, and of a canonical schedule, by the first field
abbrev pub association_text : Listing → Field → AssocKey × AssocBody → List ℕ
association_text listing first e =
    let row = first ∷ association_row e in if listing.calls then without_calls listing.format row else row_text listing.format row

abbrev pub text_of_row : Listing → List Field → BodyLines → List ℕ
text_of_row listing row b = if listing.calls then with_calls listing.format row (calls_in b) else row_text listing.format row

abbrev pub train_text : Listing → Field → List ℕ × BodyLines → List ℕ
train_text listing first e = text_of_row listing (first ∷ train_row e) e.1

abbrev pub schedule_text : Listing → Field → Permanent BodyLines → List ℕ
schedule_text listing first r = text_of_row listing (first ∷ schedule_row r) r.body

-- the names of the fields of a call, if a row has them
abbrev pub call_names_if : Listing → List (List ℕ)
call_names_if listing = if listing.calls then call_names else []

-- the names of the fields of what runs on a day, and of the records of a train
abbrev pub day_names : Listing → List (List ℕ)
day_names listing =
    codes "date" ∷ codes "kind" ∷ codes "uid" ∷ (journey_names ++ (association_names ++ call_names_if listing))

abbrev pub train_names : Listing → List (List ℕ)
train_names listing =
    codes "uid" ∷ codes "first_date" ∷ codes "last_date" ∷ codes "days_run" ∷ (journey_names ++ call_names_if listing)

abbrev pub day_heading : Listing → List ℕ
day_heading listing = heading_text listing.format (day_names listing)

abbrev pub train_heading : Listing → List ℕ
train_heading listing = heading_text listing.format (train_names listing)

abbrev pub day_texts : Listing → ℕ → DayTexts
day_texts listing d = record {
  heading = day_heading listing;
  association = association_text listing (date_field d);
  train = train_text listing (date_field d);
}

abbrev pub train_texts : Listing → List ℕ → TrainTexts
train_texts listing uid = record {
  heading = train_heading listing;
  schedule = schedule_text listing (uid_field uid);
}

-- what is listed of a day, and of a train
abbrev pub IsDayListing : Listing → ExtractParts → ℕ → List ℕ → Type 0
IsDayListing listing x d = IsDayListed (day_texts listing d) x d

abbrev pub IsTrainListing : Listing → Form → ExtractParts → List ℕ → List ℕ → Type 0
IsTrainListing listing form x uid = IsTrainListed (train_texts listing uid) form x uid
