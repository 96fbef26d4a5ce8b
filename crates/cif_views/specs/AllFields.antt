-- The fields of each row have the names that stand before a table.
use Rattle.std.specs.Prelude.{◌≡◌, ℕ, Bool, true, false, List, [], ◌∷◌, ◌++◌, length, map, take}
use Rattle.std.specs.List.{flat_map}
use Rattle.cif_columns.specs.Field.{columns}
use Rattle.cif_extract.specs.Body.{BodyLines}
use Rattle.cif_records.specs.declared.{association.AssocBody.AssocBody, association.AssocKey.AssocKey, origin.Origin.Origin, stop.Stop.Stop}
use Rattle.cif_records.specs.declared.{terminus.Terminus.Terminus}
use Rattle.cif_weeks.specs.Permanent.{Permanent}
use Rattle.cif_canon.specs.Rows.{association_row, schedule_row, train_row}
use Rattle.cif_rows.specs.{Row.Field, Row.Value, Row.absent, declared.format.Format.TheVariants.Tsv}
use Rattle.cif_views.specs.Calls.{call_names, listed_fields, nested_fields, nested_names, origin_call, stop_call, terminus_call}
use Rattle.cif_views.specs.DifferenceTable.{association_head, difference_names, differing_row, schedule_head, single_row, tiploc_head}
use Rattle.cif_views.specs.Explanation.{Explained, explained_association_row, explained_train_row, explanation_names}
use Rattle.cif_views.specs.Listing.{date_field, day_names, train_names, uid_field}
use Rattle.cif_views.specs.{Tables.tiploc_fields, declared.listing.Listing.Listing}
use Rattle.cif_views.specs.Tables.{TableFields, association_fields, basic_fields, detail_fields, extra_fields}
use Rattle.cif_views.specs.Tables.{header_fields, kind_of_line, location_and_suffix, own_call_fields, own_change_fields}
use Rattle.cif_views.specs.declared.columns.JourneyKind.TheVariants as kind

-- the fields have these names, in order
abbrev pub HasAll : List (List ℕ) → List Field → Type 0
HasAll names row = map (λ f. f.name) row ≡ names

-- a table of a day or of a train, with or without calls
abbrev pub table_with : Bool → Listing
table_with calls = record { format = Tsv; calls = calls }

-- the fields of calls, in a row of their own and within the object of a train
pub record CallsHaveAll : Type 0 where
  pub origin : (o : Origin) → HasAll call_names (listed_fields (origin_call o)) × HasAll nested_names (nested_fields (origin_call o))
  pub stop : (s : Stop) → HasAll call_names (listed_fields (stop_call s)) × HasAll nested_names (nested_fields (stop_call s))
  pub terminus : (t : Terminus) → HasAll call_names (listed_fields (terminus_call t)) × HasAll nested_names (nested_fields (terminus_call t))

-- the rows of a day: of an association, of a train, and of each with a call
pub record DayRowsHaveAll : Type 0 where
  pub association : (d : ℕ) (e : AssocKey × AssocBody) → HasAll (day_names (table_with false)) (date_field d ∷ association_row e)
  pub no_call : (d : ℕ) (e : AssocKey × AssocBody) →
      HasAll (day_names (table_with true)) ((date_field d ∷ association_row e) ++ map absent call_names)
  pub train : (d : ℕ) (e : List ℕ × BodyLines) → HasAll (day_names (table_with false)) (date_field d ∷ train_row e)
  pub call : (d : ℕ) (e : List ℕ × BodyLines) (call : List Field) → HasAll call_names call →
      HasAll (day_names (table_with true)) ((date_field d ∷ train_row e) ++ call)

-- the rows of a train: of a schedule, and of a schedule with a call
pub record TrainRowsHaveAll : Type 0 where
  pub schedule : (uid : List ℕ) (r : Permanent BodyLines) → HasAll (train_names (table_with false)) (uid_field uid ∷ schedule_row r)
  pub call : (uid : List ℕ) (r : Permanent BodyLines) (call : List Field) → HasAll call_names call →
      HasAll (train_names (table_with true)) ((uid_field uid ∷ schedule_row r) ++ call)

-- the rows of an explanation
pub record ExplainedRowsHaveAll : Type 0 where
  pub association : (d : ℕ) (e : Explained AssocKey AssocBody) → HasAll explanation_names (explained_association_row d e)
  pub train : (d : ℕ) (e : Explained (List ℕ) BodyLines) → HasAll explanation_names (explained_train_row d e)

-- The rows of differences: of what only one side has, and of a field of a pair. Those of a location, of an association and of a schedule
-- begin with as many values.
abbrev pub HasAllValues : List Value → Type 0
HasAllValues row = length row ≡ length difference_names

abbrev pub HaveAllAfter : List Value → Type 0
HaveAllAfter head =
    HasAllValues (single_row head)
    × ((call identity location : Value) (name : List ℕ) (left right : Value) →
    HasAllValues (differing_row (head ++ (call ∷ identity ∷ location ∷ [])) name left right))

pub record DifferenceRowsHaveAll : Type 0 where
  pub tiploc : (change : Value) (line : List ℕ) → HaveAllAfter (tiploc_head change line)
  pub association : (change : Value) (line : List ℕ) → HaveAllAfter (association_head change line)
  pub schedule : (change : Value) (line : List ℕ) → HaveAllAfter (schedule_head change line)

-- The columns of a row's fields, one behind another, are those of the line from one to another: none is left out, and none stands twice.
abbrev pub AreColumns : TableFields (List ℕ) → ℕ → ℕ → List ℕ → Type 0
AreColumns fields from to line = flat_map (λ f. (f.1 line).1) fields ≡ columns from to line

-- the fields of a call behind the identity of its line
abbrev pub behind_identity : TableFields (List ℕ)
behind_identity = location_and_suffix ++ own_call_fields

-- So it is with each record. The dates of an HD stand behind these columns; an LO has its activities behind `pathing`.
pub record TablesHaveColumns (line : List ℕ) : Type 0 where
  pub header : AreColumns (take 7 header_fields) 3 48 line
  pub tiploc : AreColumns tiploc_fields 3 72 line
  pub association : AreColumns association_fields 4 48 line
  pub dates : AreColumns (take 4 basic_fields) 4 28 line
  pub details : AreColumns detail_fields 30 78 line
  pub extra : AreColumns extra_fields 3 23 line
  pub change : AreColumns (location_and_suffix ++ own_change_fields) 3 75 line
  pub origin : kind_of_line line ≡ kind.Origin → flat_map (λ f. (f.1 line).1) behind_identity
      ≡ columns 3 25 line ++ (columns 30 41 line ++ (columns 26 29 line ++ columns 42 43 line))
  pub stop : kind_of_line line ≡ kind.Stop → AreColumns behind_identity 3 60 line
  pub terminus : kind_of_line line ≡ kind.Terminus → AreColumns behind_identity 3 37 line
