-- The rows of a train, call by call. No public clause cites them.
use Rattle.std.specs.Prelude.{List, ℕ, ◌∷◌, [], ◌++◌, ◌<◌, ◌≡◌, codes, length, map, Bool}
use Rattle.cif_rows.specs.Row.{Field, Value, absent, object_text, row_text, text}
use Rattle.cif_rows.specs.Steps.{fields_text}
use Rattle.cif_rows.specs.declared.format.Format.{Format}
use Rattle.cif_rows.specs.declared.format.Format.TheVariants.{Json, Text, Tsv}
use Rattle.cif_views.specs.Calls.{listed_fields, call_names, nested_fields}
use Rattle.cif_views.specs.Listing.{date_field, uid_field}
use Rattle.cif_views.specs.declared.calls.CallColumns.{CallColumns}
use Rattle.cif_views.specs.declared.listing.{First.First, First.TheVariants.Date, First.TheVariants.Train, Listing.Listing}

-- a call, as the code has it
abbrev pub values_of : CallColumns → List Value
values_of c =
    text c.record ∷ text c.location ∷ text c.suffix ∷ text c.arrival ∷ text c.departure ∷ text c.pass ∷ text c.public_arrival
    ∷ text c.public_departure ∷ text c.platform ∷ text c.path ∷ text c.line ∷ text c.activities ∷ []

-- the fields of a call in each format
abbrev pub fields_of_call : Format → List Value → List Field
fields_of_call Text call = listed_fields call
fields_of_call Tsv call = listed_fields call
fields_of_call Json call = nested_fields call

-- what is written of a call of a train with this row
abbrev pub call_text : Format → List Field → List Value → List ℕ
call_text Text row call = row_text Text (listed_fields call)
call_text Tsv row call = row_text Tsv (row ++ listed_fields call)
call_text Json row call = object_text (nested_fields call) ++ codes ","

-- this is the text of the fields of a row, and there is some
pub record IsRowText (format : Format) (row : List Field) (text : List ℕ) : Type 0 where
  pub is : text ≡ fields_text format row
  pub some : 0 < length text

-- what is written where a call is missing
abbrev pub no_call_text : Format → List ℕ
no_call_text Text = []
no_call_text Tsv = fields_text Tsv (map absent call_names)
no_call_text Json = codes "\"calls\":[],"

-- what the rows of a table begin with
abbrev pub first_field : First → Field
first_field (Date d) = date_field d
first_field (Train uid) = uid_field uid

-- a listing, by its parts
abbrev pub listing_in : Format → Bool → Listing
listing_in format calls = record { format = format; calls = calls }
