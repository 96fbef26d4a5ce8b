-- Tables of a whole canonical extract: the names of their fields, and what stands in a row.
use Rattle.std.specs.Prelude.{Bool, List, Option, Some, [], codes, cond, false, map, replicate, slice_index_or, true, ℕ, ◌++◌, ◌+◌}
use Rattle.std.specs.{List.filter, Prelude.◌∷◌}
use Rattle.cif_columns.specs.Field.{columns, columns_from}
use Rattle.cif_records.specs.{Kind.kind_in, declared.record.Kind.Kind}
use Rattle.cif_records.specs.declared.record.Kind.TheVariants.{Bx, Cr, Li, Lo, Lt}
use Rattle.cif_canon.specs.Lines.{ScheduleLines}
use Rattle.cif_rows.specs.Row.{Field, Value, named, nothing, number}
use Rattle.cif_rows.specs.declared.shape.Shape.TheVariants.{Date, Trimmed, Whole}
use Rattle.cif_views.specs.declared.columns.JourneyKind.{JourneyKind}
use Rattle.cif_views.specs.declared.columns.JourneyKind.TheVariants.{Change, Origin, Other, Stop, Terminus}

-- the columns of a table: each has a name, and what stands there in a row
abbrev pub TableFields : Type 0 → Type 0
TableFields Row = List (List ℕ × (Row → Value))

-- its names, and what stands in a row: as many values
abbrev pub names : {Row : Type 0} → TableFields Row → List (List ℕ)
names fields = map (λ f. f.0) fields

abbrev pub row_values : {Row : Type 0} → TableFields Row → Row → List Value
row_values fields row = map (λ f. f.1 row) fields

-- a row: each value has its name
abbrev pub row_of : {Row : Type 0} → TableFields Row → Row → List Field
row_of fields row = map (λ f. named f.0 (f.1 row)) fields

-- the fields of a part of a row are fields of the row
abbrev pub of_part : {Row Part : Type 0} → (Row → Part) → TableFields Part → TableFields Row
of_part part fields = map (λ f. (f.0, λ row. f.1 (part row))) fields

-- What stands in columns of a line, counted from 1: without the spaces at their end; as they stand; as a date YYMMDD, and as one that the
-- header writes as DDMMYY.
abbrev pub text_at : ℕ → ℕ → List ℕ → Value
text_at from to line = (Trimmed, columns from to line)

abbrev pub whole_at : ℕ → ℕ → List ℕ → Value
whole_at from to line = (Whole, columns from to line)

abbrev pub date_at : ℕ → ℕ → List ℕ → Value
date_at from to line = (Date, columns from to line)

abbrev pub yymmdd_from : List ℕ → List ℕ
yymmdd_from ddmmyy =
    let digit : ℕ → ℕ = λ n. slice_index_or ddmmyy n 0 in digit 4 ∷ digit 5 ∷ digit 2 ∷ digit 3 ∷ digit 0 ∷ digit 1 ∷ []

abbrev pub header_date_at : ℕ → List ℕ → Value
header_date_at from line = (Date, yymmdd_from (columns_from from 6 line))

-- the header
abbrev pub header_fields : TableFields (List ℕ)
header_fields =
    (codes "mainframe_identity", text_at 3 22)
    ∷ (codes "extract_date", text_at 23 28)
    ∷ (codes "extract_time", text_at 29 32)
    ∷ (codes "current_reference", text_at 33 39)
    ∷ (codes "last_reference", text_at 40 46)
    ∷ (codes "update_indicator", text_at 47 47)
    ∷ (codes "version", text_at 48 48)
    ∷ (codes "first_date", header_date_at 49)
    ∷ (codes "last_date", header_date_at 55)
    ∷ []

-- a location
abbrev pub tiploc_fields : TableFields (List ℕ)
tiploc_fields =
    (codes "tiploc", text_at 3 9)
    ∷ (codes "capitals", text_at 10 11)
    ∷ (codes "nalco", text_at 12 17)
    ∷ (codes "nlc_check", text_at 18 18)
    ∷ (codes "tps_description", text_at 19 44)
    ∷ (codes "stanox", text_at 45 49)
    ∷ (codes "po_mcp_code", text_at 50 53)
    ∷ (codes "crs_code", text_at 54 56)
    ∷ (codes "description", text_at 57 72)
    ∷ []

-- an association: the fields of its category, those of its type, and all
abbrev pub category_fields : TableFields (List ℕ)
category_fields = (codes "category", text_at 35 36) ∷ (codes "date_indicator", text_at 37 37) ∷ []

abbrev pub type_fields : TableFields (List ℕ)
type_fields = (codes "diagram_type", text_at 47 47) ∷ (codes "association_type", text_at 48 48) ∷ []

abbrev pub association_fields : TableFields (List ℕ)
association_fields =
    (codes "base_uid", whole_at 4 9)
    ∷ (codes "associated_uid", whole_at 10 15)
    ∷ (codes "first_date", date_at 16 21)
    ∷ (codes "last_date", date_at 22 27)
    ∷ (codes "days_run", text_at 28 34)
    ∷ (category_fields
    ++ ((codes "location", text_at 38 44)
    ∷ (codes "base_suffix", text_at 45 45)
    ∷ (codes "associated_suffix", text_at 46 46)
    ∷ type_fields))

-- A schedule, with its number: its BS, and its BX, in place of which a line of spaces stands where there is none.
pub record NumberedSchedule : Type 0 where
  pub schedule : ℕ
  pub basic : List ℕ
  pub extra : List ℕ

abbrev pub is_extra : List ℕ → Bool
is_extra line = of_kind (kind_in line)
  where
    of_kind : Option Kind → Bool
    of_kind (Some Bx) = true
    of_kind _ = false

abbrev pub extra_in : List (List ℕ) → List ℕ
extra_in [] = replicate 80 32
extra_in (line ∷ lines) = cond (is_extra line) line (replicate 80 32)

abbrev pub numbered_schedule : ℕ × ScheduleLines → NumberedSchedule
numbered_schedule s = record { schedule = s.0; basic = s.1.basic; extra = extra_in s.1.further }

-- the fields of a BS: those behind its days run, and all
abbrev pub detail_fields : TableFields (List ℕ)
detail_fields =
    (codes "status", text_at 30 30)
    ∷ (codes "category", text_at 31 32)
    ∷ (codes "identity", text_at 33 36)
    ∷ (codes "headcode", text_at 37 40)
    ∷ (codes "course", text_at 41 41)
    ∷ (codes "service_code", text_at 42 49)
    ∷ (codes "sector", text_at 50 50)
    ∷ (codes "power", text_at 51 53)
    ∷ (codes "timing_load", text_at 54 57)
    ∷ (codes "speed", text_at 58 60)
    ∷ (codes "characteristics", text_at 61 66)
    ∷ (codes "class", text_at 67 67)
    ∷ (codes "sleepers", text_at 68 68)
    ∷ (codes "reservations", text_at 69 69)
    ∷ (codes "connection", text_at 70 70)
    ∷ (codes "catering", text_at 71 74)
    ∷ (codes "branding", text_at 75 78)
    ∷ []

abbrev pub basic_fields : TableFields (List ℕ)
basic_fields =
    (codes "uid", whole_at 4 9)
    ∷ (codes "first_date", date_at 10 15)
    ∷ (codes "last_date", date_at 16 21)
    ∷ (codes "days_run", text_at 22 28)
    ∷ detail_fields

-- the identity of a BX, and its other fields
abbrev pub extra_identity : TableFields (List ℕ)
extra_identity = (codes "extra", text_at 1 2) ∷ []

abbrev pub extra_fields : TableFields (List ℕ)
extra_fields =
    (codes "traction", text_at 3 6)
    ∷ (codes "uic", text_at 7 11)
    ∷ (codes "operator_code", text_at 12 13)
    ∷ (codes "timetable_code", text_at 14 14)
    ∷ (codes "reserved_a", text_at 15 22)
    ∷ (codes "reserved_b", text_at 23 23)
    ∷ []

abbrev pub schedule_fields : TableFields NumberedSchedule
schedule_fields =
    (codes "schedule", λ s. number s.schedule)
    ∷ (of_part (λ s. s.basic) basic_fields ++ of_part (λ s. s.extra) (extra_identity ++ extra_fields))

-- A line of a journey: the number of its schedule, and that of the call which it is or which comes next.
pub record Numbered : Type 0 where
  pub schedule : ℕ
  pub call : ℕ
  pub line : List ℕ

-- the kind of a line of a journey: the calls are LO, LI and LT
abbrev pub journey_kind : Option Kind → JourneyKind
journey_kind (Some Lo) = Origin
journey_kind (Some Li) = Stop
journey_kind (Some Lt) = Terminus
journey_kind (Some Cr) = Change
journey_kind _ = Other

abbrev pub is_call : JourneyKind → Bool
is_call Origin = true
is_call Stop = true
is_call Terminus = true
is_call Change = false
is_call Other = false

abbrev pub is_change : JourneyKind → Bool
is_change Change = true
is_change _ = false

abbrev pub kind_of_line : List ℕ → JourneyKind
kind_of_line line = journey_kind (kind_in line)

-- the lines of a schedule, with their numbers; the first call that comes is this one
abbrev pub numbered_from : ℕ → ℕ → List (List ℕ) → List Numbered
numbered_from schedule call [] = []
numbered_from schedule call (line ∷ lines) =
    record { schedule = schedule; call = call; line = line }
    ∷ numbered_from schedule (cond (is_call (kind_of_line line)) (call + 1) call) lines

abbrev pub calls_of : ℕ × ScheduleLines → List Numbered
calls_of s = filter (λ p. is_call (kind_of_line p.line)) (numbered_from s.0 1 s.1.further)

abbrev pub changes_of : ℕ × ScheduleLines → List Numbered
changes_of s = filter (λ p. is_change (kind_of_line p.line)) (numbered_from s.0 1 s.1.further)

-- a field of a call, which may stand elsewhere in LO, LI and LT
abbrev pub by_kind : Value → Value → Value → JourneyKind → Value
by_kind of_origin of_stop of_terminus Origin = of_origin
by_kind of_origin of_stop of_terminus Stop = of_stop
by_kind of_origin of_stop of_terminus Terminus = of_terminus
by_kind of_origin of_stop of_terminus Change = nothing
by_kind of_origin of_stop of_terminus Other = nothing

abbrev pub of_call : (List ℕ → Value) → (List ℕ → Value) → (List ℕ → Value) → List ℕ → Value
of_call of_origin of_stop of_terminus line = by_kind (of_origin line) (of_stop line) (of_terminus line) (kind_of_line line)

abbrev pub no_field : List ℕ → Value
no_field line = nothing

-- the fields of a call behind its suffix, and those of a change
abbrev pub own_call_fields : TableFields (List ℕ)
own_call_fields =
    (codes "arrival", of_call no_field (text_at 11 15) (text_at 11 15))
    ∷ (codes "departure", of_call (text_at 11 15) (text_at 16 20) no_field)
    ∷ (codes "pass", of_call no_field (text_at 21 25) no_field)
    ∷ (codes "public_arrival", of_call no_field (text_at 26 29) (text_at 16 19))
    ∷ (codes "public_departure", of_call (text_at 16 19) (text_at 30 33) no_field)
    ∷ (codes "platform", of_call (text_at 20 22) (text_at 34 36) (text_at 20 22))
    ∷ (codes "line", of_call (text_at 23 25) (text_at 37 39) no_field)
    ∷ (codes "path", of_call no_field (text_at 40 42) (text_at 23 25))
    ∷ (codes "activities", of_call (text_at 30 41) (text_at 43 54) (text_at 26 37))
    ∷ (codes "engineering", of_call (text_at 26 27) (text_at 55 56) no_field)
    ∷ (codes "pathing", of_call (text_at 28 29) (text_at 57 58) no_field)
    ∷ (codes "performance", of_call (text_at 42 43) (text_at 59 60) no_field)
    ∷ []

abbrev pub own_change_fields : TableFields (List ℕ)
own_change_fields =
    (codes "category", text_at 11 12)
    ∷ (codes "identity", text_at 13 16)
    ∷ (codes "headcode", text_at 17 20)
    ∷ (codes "course", text_at 21 21)
    ∷ (codes "service_code", text_at 22 29)
    ∷ (codes "sector", text_at 30 30)
    ∷ (codes "power", text_at 31 33)
    ∷ (codes "timing_load", text_at 34 37)
    ∷ (codes "speed", text_at 38 40)
    ∷ (codes "characteristics", text_at 41 46)
    ∷ (codes "class", text_at 47 47)
    ∷ (codes "sleepers", text_at 48 48)
    ∷ (codes "reservations", text_at 49 49)
    ∷ (codes "connection", text_at 50 50)
    ∷ (codes "catering", text_at 51 54)
    ∷ (codes "branding", text_at 55 58)
    ∷ (codes "traction", text_at 59 62)
    ∷ (codes "uic", text_at 63 67)
    ∷ (codes "reserved_a", text_at 68 75)
    ∷ []

-- the numbers of a line, its location and suffix, and all fields of a call and of a change
abbrev pub number_fields : TableFields Numbered
number_fields = (codes "schedule", λ p. number p.schedule) ∷ (codes "call", λ p. number p.call) ∷ []

abbrev pub location_and_suffix : TableFields (List ℕ)
location_and_suffix = (codes "location", text_at 3 9) ∷ (codes "suffix", text_at 10 10) ∷ []

abbrev pub call_fields : TableFields Numbered
call_fields = number_fields ++ of_part (λ p. p.line) ((codes "record", text_at 1 2) ∷ (location_and_suffix ++ own_call_fields))

abbrev pub change_fields : TableFields Numbered
change_fields = number_fields ++ of_part (λ p. p.line) (location_and_suffix ++ own_change_fields)
