-- The rows of a board as the code makes them, schedule by schedule. No public clause cites them.
use Rattle.std.specs.Prelude.{Bool, List, None, Option, Some, [], drop, false, if◌then◌else◌, map, nat_eq, nat_le, option_map}
use Rattle.std.specs.Prelude.{Contains, option_to_list, ℕ, ◌&&◌, ◌++◌, ◌+◌, ◌-◌, ◌↔◌, ◌∷◌, ◌≡◌}
use Rattle.std.specs.{Cmp.Lexicographic.pointwise, List.Sorted.IsPermutation, List.Sorted.IsSorted, List.find, List.flat_map, List.list_any}
use Rattle.cif_canon.specs.Steps.Views.{applies_on}
use Rattle.cif_extract.specs.Body.{BodyLines}
use Rattle.cif_records.specs.declared.tiploc.Tiploc.{Tiploc}
use Rattle.cif_weeks.specs.Permanent.{Permanent}
use Rattle.cif_views.specs.Boards.{board_train, clock_time, date_on, is_shown, key_cmp, nowhere, stop_of}
use Rattle.cif_views.specs.Places.{IsNamed, crs_of, tiploc_of}
use Rattle.cif_views.specs.Steps.PublicCalls.{at_first, public_from}
use Rattle.cif_views.specs.Tables.{numbered_from}
use Rattle.cif_views.specs.declared.{board.Board.Board, board.BoardRow.BoardRow, board.BoardTrain.BoardTrain, board.CallingAt.CallingAt}
use Rattle.cif_views.specs.declared.boards.Wanted.{Wanted}
use Rattle.cif_views.specs.declared.{places.Place.Place, public_stop.PublicStop.PublicStop}

-- the TIPLOCs that a place names, and whether one is among them
abbrev pub code_is : Option (List ℕ) → List ℕ → Bool
code_is None crs = false
code_is (Some code) crs = pointwise nat_eq code crs

abbrev pub named_by : Place → Tiploc → List (List ℕ)
named_by place t = if code_is place.crs (crs_of t) then tiploc_of t ∷ [] else []

abbrev pub locations_of : List Tiploc → Place → List (List ℕ)
locations_of tiplocs place = place.tiploc ∷ flat_map (named_by place) tiplocs

abbrev pub is_at : List (List ℕ) → List ℕ → Bool
is_at named location = list_any (pointwise nat_eq location) named

-- the public calls of a train with these lines
abbrev pub stops_in : List (List ℕ) → List PublicStop
stops_in lines = map stop_of (public_from at_first (numbered_from 1 1 lines))

-- the first of the calls where riders may get off at one of the locations, and when a train of this date is there
abbrev pub is_goal : List (List ℕ) → PublicStop → Bool
is_goal named s = s.gets_off && is_at named s.location

abbrev pub goal_in : List (List ℕ) → List PublicStop → Option PublicStop
goal_in named stops = find (is_goal named) stops

abbrev pub calling_of : ℕ → PublicStop → CallingAt
calling_of train_date stop =
    record { location = Some stop.location; date = date_on (train_date + stop.arrival.midnights); time = stop.arrival.time }

-- where a train has to call later: none if it needn't
abbrev pub calling_from : Option (List (List ℕ)) → ℕ → List PublicStop → Option CallingAt
calling_from None train_date later = Some nowhere
calling_from (Some named) train_date later = option_map (calling_of train_date) (goal_in named later)

-- the row of a call
abbrev pub row_on : Wanted → List ℕ → BoardTrain → PublicStop → ℕ → CallingAt → BoardRow
row_on wanted uid train stop train_date calling = record {
  key = record { time = (clock_time wanted.kind stop).time; uid = uid; train_date = train_date; call = stop.call };
  location = stop.location;
  platform = stop.platform;
  train = train;
  calling_at = calling;
}

-- if the train runs on this date
abbrev pub row_of_date : Wanted → List ℕ × Permanent BodyLines → BoardTrain → PublicStop → List PublicStop → ℕ → Option BoardRow
row_of_date wanted e train stop later train_date =
    if applies_on e.1 train_date
    then option_map (row_on wanted e.0 train stop train_date) (calling_from wanted.goal train_date later)
    else None

-- if the call is one that the board lists: its date is that of the board, less the midnights before the call
abbrev pub row_if : Wanted → List ℕ × Permanent BodyLines → BoardTrain → PublicStop → List PublicStop → Option BoardRow
row_if wanted e train stop later =
    let midnights = (clock_time wanted.kind stop).midnights in
    if is_shown wanted.kind stop && is_at wanted.place stop.location
    then (if nat_le midnights wanted.day then row_of_date wanted e train stop later (wanted.day - midnights) else None)
    else None

abbrev pub rows_from : Wanted → List ℕ × Permanent BodyLines → BoardTrain → List PublicStop → List BoardRow
rows_from wanted e train [] = []
rows_from wanted e train (stop ∷ later) = option_to_list (row_if wanted e train stop later) ++ rows_from wanted e train later

-- the rows of a schedule
abbrev pub rows_of : Wanted → List ℕ × Permanent BodyLines → List BoardRow
rows_of wanted e =
    let stops = stops_in (drop 1 e.1.body) in rows_from wanted e (board_train e.1.body stops) stops

-- what is looked for, and the rows of all schedules, in their order
abbrev pub AreLocations : List Tiploc → Place → List (List ℕ) → Type 0
AreLocations tiplocs place named = (l : List ℕ) → Contains named l ↔ IsNamed tiplocs place l

abbrev pub AreGoals : List Tiploc → Option Place → Option (List (List ℕ)) → Type 0
AreGoals tiplocs None None = Unit {0}
AreGoals tiplocs (Some goal) (Some named) = AreLocations tiplocs goal named
AreGoals tiplocs goal named = ⊥

abbrev pub wanted_of : Board → List (List ℕ) → Option (List (List ℕ)) → Wanted
wanted_of board place goal = record { kind = board.kind; day = board.day; place = place; goal = goal }

pub record AreRowsOf (tiplocs : List Tiploc) (board : Board) (schedules : List (List ℕ × Permanent BodyLines)) (rows : List BoardRow)
    : Type 0 where
  pub place : List (List ℕ)
  pub are_place : AreLocations tiplocs board.place place
  pub goal : Option (List (List ℕ))
  pub are_goal : AreGoals tiplocs board.calling_at goal
  pub permuted : IsPermutation (flat_map (rows_of (wanted_of board place goal)) schedules) rows
  pub sorted : IsSorted (λ r s. key_cmp r.key s.key) rows
