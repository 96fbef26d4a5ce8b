-- Boards: what leaves from a place on a date, and what arrives there.
use Rattle.std.specs.Prelude.{All, AllPairs, Bool, Contains, IsTrue, List, None, Option, Some, [], codes, drop, if◌then◌else◌, map, nat_le, not, option_map}
use Rattle.std.specs.Prelude.{slice_get, slice_index_or, take, unwrap_or, ℕ, ◌%◌, ◌++◌, ◌+◌, ◌/◌, ◌↔◌, ◌∷◌, ◌≡◌}
use Rattle.std.specs.{Option.option_or, Prelude.true}
use Rattle.std.specs.{Cmp.Lexicographic.pointwise, Cmp.Lexicographic.slice_cmp, List.find, List.flat_map, Ordering.nat_cmp}
use Rattle.std.specs.{Ordering.ordering_then, Prelude.nat_eq, declared.cmp.Ordering.Ordering, declared.cmp.Ordering.TheVariants.Less}
use Rattle.cif_calendar.specs.{Entries.schedule_entries, Keys.of_key, Runs.BodyRuns}
use Rattle.cif_columns.specs.{DayDigits.date_of, DayDigits.yymmdd_of, Digits.two_digits, Field.columns}
use Rattle.cif_canon.specs.{Accepted.IsClearExtract, Asked.header_window, Tiplocs.AreDistinct}
use Rattle.cif_extract.specs.{Body.BodyLines, ExtractParts.ExtractParts}
use Rattle.cif_records.specs.declared.tiploc.Tiploc.{Tiploc}
use Rattle.cif_weeks.specs.Window.{IsWithin}
use Rattle.cif_rows.specs.Row.{Field, Value, heading_text, named, number, row_text, text, trimmed}
use Rattle.cif_rows.specs.declared.format.{Format.Format, Format.TheVariants.Text}
use Rattle.cif_rows.specs.declared.shape.Shape.TheVariants.{Date, Whole}
use Rattle.cif_views.specs.{ClockTimes.by_the_clock, Moments.time_text, declared.moment.ClockTime.ClockTime}
use Rattle.cif_views.specs.Places.{IsNamed, name_of, tiploc_of}
use Rattle.cif_views.specs.Steps.PublicCalls.{public_calls}
use Rattle.cif_views.specs.PublicCalls.{PublicCall, pick_up, platform_in, riders_of, set_down, times_of}
use Rattle.cif_views.specs.Tables.{extra_in, kind_of_line}
use Rattle.cif_views.specs.declared.board.{Board.Board, BoardKey.BoardKey, BoardKind.BoardKind, BoardRow.BoardRow, BoardTrain.BoardTrain, CallingAt.CallingAt}
use Rattle.cif_views.specs.declared.places.Place.{Place}
use Rattle.cif_views.specs.declared.board.BoardKind.TheVariants.{Arrivals, Departures}
use Rattle.cif_views.specs.declared.public_stop.PublicStop.{PublicStop}

-- ---- the public calls of a train

-- whether riders may, by what the table of public calls answers: 1 is no
abbrev pub may : List ℕ → Bool
may answer = not (pointwise nat_eq answer (codes "1"))

-- what a board needs of a public call: its number, its location and platform, its moments, and whether riders may get off, and on
abbrev pub stop_of : PublicCall → PublicStop
stop_of p = record {
  call = p.call.call;
  location = columns 3 9 p.call.line;
  platform = (platform_in (kind_of_line p.call.line) p.call.line).1;
  arrival = by_the_clock p.arrival;
  departure = by_the_clock p.departure;
  gets_off = may (set_down (riders_of p.call.line) (times_of p.call.line));
  gets_on = may (pick_up (riders_of p.call.line) (times_of p.call.line));
}

-- the public calls of a body, in their order: those that the table of public calls shows of it
abbrev pub public_stops : BodyLines → List PublicStop
public_stops body = map stop_of (public_calls (1, record { basic = slice_index_or body 0 []; further = drop 1 body }))

-- For riders a train comes from the first call where they may get on, or where there is none from the first; it goes to the last where
-- they may get off, or else to the last.
abbrev pub origin_in : List PublicStop → List ℕ
origin_in stops = unwrap_or (option_map (λ s. s.location) (option_or (find (λ s. s.gets_on) stops) (slice_get stops 0))) (codes "       ")

abbrev pub last_location : (PublicStop → Bool) → List PublicStop → Option (List ℕ) → Option (List ℕ)
last_location test [] found = found
last_location test (s ∷ stops) found = last_location test stops (if test s then Some s.location else found)

abbrev pub destination_in : List PublicStop → List ℕ
destination_in stops =
    unwrap_or (option_or (last_location (λ s. s.gets_off) stops None) (last_location (λ s. true) stops None)) (codes "       ")

-- what a board says of a train: columns of its BS and its BX, and where it comes from and goes to
abbrev pub board_train : BodyLines → List PublicStop → BoardTrain
board_train body stops = record {
  identity = columns 33 36 (slice_index_or body 0 []);
  operator = columns 12 13 (extra_in (drop 1 body));
  category = columns 31 32 (slice_index_or body 0 []);
  status = columns 30 30 (slice_index_or body 0 []);
  origin = origin_in stops;
  destination = destination_in stops;
}

-- ---- calls at a place

-- when a board shows a call, and whether it does: riders get on where a train departs, and off where it arrives
abbrev pub clock_time : BoardKind → PublicStop → ClockTime
clock_time Departures stop = stop.departure
clock_time Arrivals stop = stop.arrival

abbrev pub is_shown : BoardKind → PublicStop → Bool
is_shown Departures stop = stop.gets_on
is_shown Arrivals stop = stop.gets_off

-- the date YYYY-MM-DD of the day with this number, up to 31 December 9999
unfoldable pub date_text : ℕ → List ℕ
date_text n =
    let d = date_of n in
    (two_digits (d.year / 100) ++ two_digits (d.year % 100)) ++ ((45 ∷ two_digits d.month) ++ (45 ∷ two_digits d.day))

abbrev pub date_on : ℕ → Option (List ℕ)
date_on n = if nat_le n 2936549 then Some (date_text n) else None

-- riders may get off at a call that the place names
pub record IsGoal (x : ExtractParts) (goal : Place) (stop : PublicStop) : Type 0 where
  pub at : IsNamed x.tiplocs goal stop.location
  pub riders : IsTrue stop.gets_off

-- of the later calls, this is the first such: its location, the date on which a train of this date arrives there, and the time of day
pub record IsFirstGoal (x : ExtractParts) (goal : Place) (train_date : ℕ) (later : List PublicStop) (calling : CallingAt) : Type 0 where
  pub passed : List PublicStop
  pub stop : PublicStop
  pub after : List PublicStop
  pub split : later ≡ passed ++ (stop ∷ after)
  pub none_before : All (λ s. ¬ IsGoal x goal s) passed
  pub is_goal : IsGoal x goal stop
  pub location : calling.location ≡ Some stop.location
  pub date : calling.date ≡ date_on (train_date + stop.arrival.midnights)
  pub time : calling.time ≡ stop.arrival.time

abbrev pub nowhere : CallingAt
nowhere = record { location = None; date = None; time = 0 }

abbrev pub IsCallingAt : ExtractParts → Option Place → ℕ → List PublicStop → CallingAt → Type 0
IsCallingAt x None train_date later calling = calling ≡ nowhere
IsCallingAt x (Some goal) train_date later calling = IsFirstGoal x goal train_date later calling

-- ---- the rows of a board

-- On the row's train date, which is a date of the window, its train runs. This is a public call of it at the place, open to riders, and
-- by the clock on the board's date.
pub record IsBoardRow (x : ExtractParts) (board : Board) (row : BoardRow) : Type 0 where
  pub within : IsWithin (header_window x.header) row.key.train_date
  pub body : BodyLines
  pub runs : BodyRuns (of_key (schedule_entries x.schedules) row.key.uid) row.key.train_date body
  pub earlier : List PublicStop
  pub stop : PublicStop
  pub later : List PublicStop
  pub calls : public_stops body ≡ earlier ++ (stop ∷ later)
  pub at : IsNamed x.tiplocs board.place stop.location
  pub riders : IsTrue (is_shown board.kind stop)
  pub on_date : row.key.train_date + (clock_time board.kind stop).midnights ≡ board.day
  pub time : row.key.time ≡ (clock_time board.kind stop).time
  pub call : row.key.call ≡ stop.call
  pub location : row.location ≡ stop.location
  pub platform : row.platform ≡ stop.platform
  pub train : row.train ≡ board_train body (public_stops body)
  pub calling_at : IsCallingAt x board.calling_at row.key.train_date later row.calling_at

-- Rows are ordered by the time of day, then the UID, the train date and the call.
abbrev pub key_cmp : BoardKey → BoardKey → Ordering
key_cmp a b =
    ordering_then (nat_cmp a.time b.time)
    (ordering_then (slice_cmp nat_cmp a.uid b.uid) (ordering_then (nat_cmp a.train_date b.train_date) (nat_cmp a.call b.call)))

-- These are all rows of a board, each once and in their order.
pub record AreBoardRows (x : ExtractParts) (board : Board) (rows : List BoardRow) : Type 0 where
  pub rising : AllPairs (λ r s. key_cmp r.key s.key ≡ Less) rows
  pub are : (r : BoardRow) → Contains rows r ↔ IsBoardRow x board r

-- ---- their text

-- the name of a location, in the least TI with this TIPLOC: these are all, rising
-- or spaces if none has it
abbrev pub name_in : List Tiploc → List ℕ → List ℕ
name_in tiplocs location = unwrap_or (option_map name_of (find (λ t. pointwise nat_eq (tiploc_of t) location) tiplocs)) (codes "                          ")

-- the value of a date, which is nothing where there is none
abbrev pub date_value : Option (List ℕ) → Value
date_value None = (Whole, [])
date_value (Some date) = (Whole, date)

-- the fields of a row in a table
abbrev pub fields_at : Option (List ℕ) → CallingAt → List Field
fields_at None c = []
fields_at (Some location) c =
    named (codes "calling_at") (text location)
    ∷ named (codes "calling_at_date") (date_value c.date)
    ∷ named (codes "calling_at_time") (Whole, time_text c.time)
    ∷ []

abbrev pub calling_fields : CallingAt → List Field
calling_fields c = fields_at c.location c

abbrev pub train_fields : ℕ → BoardRow → List Field
train_fields d row =
    named (codes "date") (Date, yymmdd_of d)
    ∷ named (codes "time") (Whole, time_text row.key.time)
    ∷ named (codes "train_date") (Date, yymmdd_of row.key.train_date)
    ∷ named (codes "uid") (Whole, row.key.uid)
    ∷ named (codes "identity") (text row.train.identity)
    ∷ named (codes "operator_code") (text row.train.operator)
    ∷ named (codes "category") (text row.train.category)
    ∷ named (codes "status") (text row.train.status)
    ∷ []

abbrev pub call_fields : BoardRow → List Field
call_fields row =
    named (codes "location") (text row.location)
    ∷ named (codes "platform") (text row.platform)
    ∷ named (codes "call") (number row.key.call)
    ∷ []

abbrev pub end_fields : List Tiploc → BoardTrain → List Field
end_fields tiplocs train =
    named (codes "origin") (text train.origin)
    ∷ named (codes "origin_name") (text (name_in tiplocs train.origin))
    ∷ named (codes "destination") (text train.destination)
    ∷ named (codes "destination_name") (text (name_in tiplocs train.destination))
    ∷ []

abbrev pub table_fields : ℕ → List Tiploc → BoardRow → List Field
table_fields d tiplocs row =
    train_fields d row ++ (call_fields row ++ (end_fields tiplocs row.train ++ calling_fields row.calling_at))

-- The fields of a line of text: the hour and the minute, those at the place where the train has to call, and the other end of the train by
-- its name, or by its TIPLOC if it has none.
abbrev pub end_of : BoardKind → BoardTrain → List ℕ
end_of Departures train = train.destination
end_of Arrivals train = train.origin

abbrev pub or_else : List ℕ → List ℕ → List ℕ
or_else [] other = other
or_else (b ∷ cell) other = b ∷ cell

abbrev pub end_text : List Tiploc → List ℕ → List ℕ
end_text tiplocs end = or_else (trimmed (name_in tiplocs end)) (trimmed end)

abbrev pub hour_and_minute : ℕ → List ℕ
hour_and_minute time = take 5 (time_text time)

abbrev pub time_at : Option (List ℕ) → CallingAt → List Field
time_at None c = []
time_at (Some location) c = named (codes "calling_at_time") (Whole, hour_and_minute c.time) ∷ []

abbrev pub calling_time : CallingAt → List Field
calling_time c = time_at c.location c

abbrev pub line_fields : BoardKind → List Tiploc → BoardRow → List Field
line_fields kind tiplocs row =
    (named (codes "time") (Whole, hour_and_minute row.key.time) ∷ calling_time row.calling_at)
    ++ (named (codes "platform") (text row.platform)
    ∷ named (codes "operator_code") (text row.train.operator)
    ∷ named (codes "identity") (text row.train.identity)
    ∷ named (codes "uid") (Whole, row.key.uid)
    ∷ named (codes "end") (text (end_text tiplocs (end_of kind row.train)))
    ∷ [])

abbrev pub board_fields : Format → Board → List Tiploc → BoardRow → List Field
board_fields Text board tiplocs row = line_fields board.kind tiplocs row
board_fields _ board tiplocs row = table_fields board.day tiplocs row

abbrev pub calling_names : Option Place → List (List ℕ)
calling_names None = []
calling_names (Some goal) = codes "calling_at" ∷ codes "calling_at_date" ∷ codes "calling_at_time" ∷ []

abbrev pub board_names : Board → List (List ℕ)
board_names board =
    codes "date" ∷ codes "time" ∷ codes "train_date" ∷ codes "uid" ∷ codes "identity" ∷ codes "operator_code" ∷ codes "category"
    ∷ codes "status" ∷ codes "location" ∷ codes "platform" ∷ codes "call" ∷ codes "origin" ∷ codes "origin_name" ∷ codes "destination"
    ∷ codes "destination_name" ∷ calling_names board.calling_at

abbrev pub board_text : Format → Board → List Tiploc → List BoardRow → List ℕ
board_text format board tiplocs rows =
    heading_text format (board_names board) ++ flat_map (λ row. row_text format (board_fields format board tiplocs row)) rows

-- The text is a board of the extract, which is clear, on a date of its window.
pub record IsBoard (format : Format) (x : ExtractParts) (board : Board) (text : List ℕ) : Type 0 where
  pub within : IsWithin (header_window x.header) board.day
  pub clear : IsClearExtract x
  pub tiplocs : List Tiploc
  pub are_tiplocs : AreDistinct x.tiplocs tiplocs
  pub rows : List BoardRow
  pub are_rows : AreBoardRows x board rows
  pub text_is : text ≡ board_text format board tiplocs rows
