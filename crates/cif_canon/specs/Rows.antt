-- The rows of what runs: the fields of associations, trains and canonical schedules.
use Rattle.std.specs.Prelude.{ℕ, List, ◌∷◌, [], ◌++◌, codes, map}
use Rattle.cif_columns.specs.{DayDigits.yymmdd_of, DaysRun.days_columns, Text.left_justified}
use Rattle.cif_extract.specs.Body.{BodyLines, parts_in}
use Rattle.cif_records.specs.declared.{association.AssocBody.AssocBody, association.AssocKey.AssocKey}
use Rattle.cif_rows.specs.Row.{Field, absent, joined, named, text}
use Rattle.cif_rows.specs.declared.shape.Shape.TheVariants.{Date, Whole}
use Rattle.cif_weeks.specs.Permanent.{Permanent}

-- the names of the fields of a journey, of a train, and of an association
abbrev pub journey_names : List (List ℕ)
journey_names =
    codes "identity" ∷ codes "origin" ∷ codes "origin_suffix" ∷ codes "departure" ∷ codes "origin_platform" ∷ codes "terminus"
    ∷ codes "terminus_suffix" ∷ codes "arrival" ∷ codes "terminus_platform" ∷ []

abbrev pub train_names : List (List ℕ)
train_names = codes "uid" ∷ journey_names

abbrev pub association_names : List (List ℕ)
association_names =
    codes "base_uid" ∷ codes "associated_uid" ∷ codes "association_category" ∷ codes "date_indicator" ∷ codes "association_location"
    ∷ codes "base_suffix" ∷ codes "associated_suffix" ∷ codes "diagram_type" ∷ codes "association_type" ∷ []

-- The journey of a body: its train identity, its origin with the departure, its terminus with the arrival. A line of text has a location
-- and its suffix without a space between them.
abbrev pub journey_fields : BodyLines → List Field
journey_fields body =
    let b = parts_in body in
    named (codes "identity") (text (left_justified 4 b.detail.identity))
    ∷ joined (codes "origin") (text (left_justified 7 b.origin.location))
    ∷ named (codes "origin_suffix") (text (left_justified 1 b.origin.suffix))
    ∷ named (codes "departure") (text b.origin.departure)
    ∷ named (codes "origin_platform") (text (left_justified 3 b.origin.platform))
    ∷ joined (codes "terminus") (text (left_justified 7 b.terminus.location))
    ∷ named (codes "terminus_suffix") (text (left_justified 1 b.terminus.suffix))
    ∷ named (codes "arrival") (text b.terminus.arrival)
    ∷ named (codes "terminus_platform") (text (left_justified 3 b.terminus.platform))
    ∷ []

-- the fields of an association that holds
abbrev pub association_fields : AssocKey × AssocBody → List Field
association_fields e =
    named (codes "base_uid") (Whole, e.0.base)
    ∷ named (codes "associated_uid") (Whole, e.0.associated)
    ∷ named (codes "association_category") (text (left_justified 2 e.1.category))
    ∷ named (codes "date_indicator") (text (left_justified 1 e.1.date_indicator))
    ∷ named (codes "association_location") (text (left_justified 7 e.0.location))
    ∷ named (codes "base_suffix") (text (left_justified 1 e.0.base_suffix))
    ∷ named (codes "associated_suffix") (text (left_justified 1 e.0.associated_suffix))
    ∷ named (codes "diagram_type") (text (left_justified 1 e.1.diagram))
    ∷ named (codes "association_type") (text (left_justified 1 e.1.kind))
    ∷ []

-- the fields of a train that runs
abbrev pub train_fields : List ℕ × BodyLines → List Field
train_fields e = named (codes "uid") (Whole, e.0) ∷ journey_fields e.1

-- A table has the fields of each of its rows. Those that aren't the row's own are empty, and no line of text has them.
abbrev pub no_train : List Field
no_train = map absent train_names

abbrev pub no_association : List Field
no_association = map absent association_names

-- the row of an association that holds
abbrev pub association_row : AssocKey × AssocBody → List Field
association_row e = named (codes "kind") (text (codes "AA")) ∷ (no_train ++ association_fields e)

-- the row of a train that runs
abbrev pub train_row : List ℕ × BodyLines → List Field
train_row e = named (codes "kind") (text (codes "BS")) ∷ (train_fields e ++ no_association)

-- the row of a canonical schedule: from its first to its last date it runs on these days of the week
abbrev pub schedule_row : Permanent BodyLines → List Field
schedule_row r =
    named (codes "first_date") (Date, yymmdd_of r.first) ∷ named (codes "last_date") (Date, yymmdd_of r.last)
    ∷ named (codes "days_run") (text (days_columns r.days)) ∷ journey_fields r.body
