-- The calls of a train: one for its origin, one for each location on its way, and one for its terminus.
use Rattle.std.specs.Prelude.{ℕ, List, ◌∷◌, [], ◌++◌, codes}
use Rattle.std.specs.List.{flat_map}
use Rattle.cif_columns.specs.{Activities.codes_columns, Text.left_justified}
use Rattle.cif_extract.specs.Body.{BodyLines, parts_in}
use Rattle.cif_extract.specs.declared.{call.Call.Call, call.Call.TheVariants.At, call.Call.TheVariants.Turn}
use Rattle.cif_records.specs.declared.{origin.Origin.Origin, stop.Stop.Stop, terminus.Terminus.Terminus}
use Rattle.cif_rows.specs.Row.{Field, Value, all_named, text}

-- the columns of a time, a platform, a path or a line that a record doesn't have
abbrev pub no_work_time : List ℕ
no_work_time = codes "     "

abbrev pub no_public_time : List ℕ
no_public_time = codes "    "

abbrev pub no_track : List ℕ
no_track = codes "   "

-- Each call has these values: its kind; location and suffix; arrival, departure and pass; public arrival and public departure;
-- platform, path and line; activities.
abbrev pub origin_call : Origin → List Value
origin_call o =
    text (codes "LO")
    ∷ text (left_justified 7 o.location) ∷ text (left_justified 1 o.suffix)
    ∷ text no_work_time ∷ text o.departure ∷ text no_work_time
    ∷ text no_public_time ∷ text o.public_departure
    ∷ text (left_justified 3 o.platform) ∷ text no_track ∷ text (left_justified 3 o.line)
    ∷ text (codes_columns o.activities)
    ∷ []

abbrev pub stop_call : Stop → List Value
stop_call s =
    text (codes "LI")
    ∷ text (left_justified 7 s.location) ∷ text (left_justified 1 s.suffix)
    ∷ text s.arrival ∷ text s.departure ∷ text s.pass
    ∷ text s.public_arrival ∷ text s.public_departure
    ∷ text (left_justified 3 s.platform) ∷ text (left_justified 3 s.path) ∷ text (left_justified 3 s.line)
    ∷ text (codes_columns s.activities)
    ∷ []

abbrev pub terminus_call : Terminus → List Value
terminus_call t =
    text (codes "LT")
    ∷ text (left_justified 7 t.location) ∷ text (left_justified 1 t.suffix)
    ∷ text t.arrival ∷ text no_work_time ∷ text no_work_time
    ∷ text t.public_arrival ∷ text no_public_time
    ∷ text (left_justified 3 t.platform) ∷ text (left_justified 3 t.path) ∷ text no_track
    ∷ text (codes_columns t.activities)
    ∷ []

-- that of a location on the way; a change of the train's particulars is no call
abbrev pub calls_at : Call → List (List Value)
calls_at (At stop) = stop_call stop ∷ []
calls_at (Turn change) = []

-- all calls of a train
abbrev pub calls_in : BodyLines → List (List Value)
calls_in body = let b = parts_in body in origin_call b.origin ∷ (flat_map calls_at b.calls ++ (terminus_call b.terminus ∷ []))

-- the names of a call's fields, and those that they have within the object of a train
abbrev pub call_names : List (List ℕ)
call_names =
    codes "call" ∷ codes "call_location" ∷ codes "call_suffix" ∷ codes "call_arrival" ∷ codes "call_departure" ∷ codes "call_pass"
    ∷ codes "call_public_arrival" ∷ codes "call_public_departure" ∷ codes "call_platform" ∷ codes "call_path" ∷ codes "call_line"
    ∷ codes "call_activities" ∷ []

abbrev pub nested_names : List (List ℕ)
nested_names =
    codes "record" ∷ codes "location" ∷ codes "suffix" ∷ codes "arrival" ∷ codes "departure" ∷ codes "pass" ∷ codes "public_arrival"
    ∷ codes "public_departure" ∷ codes "platform" ∷ codes "path" ∷ codes "line" ∷ codes "activities" ∷ []

-- the fields of a call, in a row of its own and within the object of a train
abbrev pub listed_fields : List Value → List Field
listed_fields call = all_named call_names call

abbrev pub nested_fields : List Value → List Field
nested_fields call = all_named nested_names call
