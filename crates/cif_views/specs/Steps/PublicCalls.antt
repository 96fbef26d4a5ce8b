-- The public calls of a schedule as the code makes them, call by call. `public_calls_are_by_moments` says what they are.
use Rattle.std.specs.Prelude.{ℕ, ◌-◌, ◌+◌, List, [], ◌∷◌, ◌++◌, Option, None, Some, max, if◌then◌else◌}
use Rattle.cif_canon.specs.Lines.{ScheduleLines}
use Rattle.cif_views.specs.{Moments.in_day_from, Moments.midnight, Tables.Numbered, Tables.numbered_from}
use Rattle.cif_views.specs.PublicCalls.{PublicCall, left_at, reached_at, riders_of, times_of}
use Rattle.cif_views.specs.declared.{public_calls.CallTimes.CallTimes, public_calls.Journey.Journey, public_calls.Riders.Riders}
use Rattle.cif_views.specs.declared.{public_calls.Shown.Shown, public_calls.Stay.Stay}

-- what goes on from call to call: when the last timed call was left, and the last moment shown; none at first
abbrev pub at_first : Journey
at_first = record { left = None; shown = midnight }

-- the moments at which a call with these times is reached and left, behind this moment, if it is timed
abbrev pub reached_moment : Option ℕ → ℕ → ℕ
reached_moment None seconds = midnight + seconds
reached_moment (Some p) seconds = in_day_from (p - 3600) seconds

abbrev pub stay_at : Option ℕ → Option ℕ → Option ℕ → Option Stay
stay_at before (Some reached) (Some left) =
    let at = reached_moment before reached in Some (record { reached = at; left = in_day_from (at - 3600) left })
stay_at before reached left = None

abbrev pub stay : Option ℕ → CallTimes → Option Stay
stay before t = stay_at before (reached_at t) (left_at t)

-- moments of public times that are raised to this one, if they are before it
abbrev pub raised : ℕ → ℕ → ℕ → Shown
raised before arrival departure =
    record { arrival = max before arrival; departure = max (max before arrival) departure }

abbrev pub public_moment : ℕ → ℕ → ℕ
public_moment there seconds = in_day_from (there - 43200) seconds

abbrev pub shown_at : ℕ → Stay → Option ℕ → Option ℕ → Option Shown
shown_at before at (Some arrival) (Some departure) =
    Some (raised before (public_moment at.reached arrival) (public_moment at.left departure))
shown_at before at (Some arrival) None = let m = public_moment at.reached arrival in Some (raised before m m)
shown_at before at None (Some departure) = let m = public_moment at.left departure in Some (raised before m m)
shown_at before at None None = None

-- those of a call with these times, of which this is said, if it is public
abbrev pub shown_of : ℕ → Stay → CallTimes → Riders → Option Shown
shown_of before at t riders =
    if riders.advertised then shown_at before at t.public_arrival t.public_departure else None

-- what a timed call leaves of a journey, and its moments if it is public
abbrev pub behind_shown : Journey → Stay → Option Shown → Journey × Option Shown
behind_shown j at None = (record { left = Some at.left; shown = j.shown }, None)
behind_shown j at (Some p) = (record { left = Some at.left; shown = p.departure }, Some p)

-- and what a line does with these times, of which this is said, and this line
abbrev pub behind_stay : Journey → CallTimes → Riders → Option Stay → Journey × Option Shown
behind_stay j t riders None = (j, None)
behind_stay j t riders (Some at) = behind_shown j at (shown_of j.shown at t riders)

abbrev pub step : Journey → CallTimes → Riders → Journey × Option Shown
step j t riders = behind_stay j t riders (stay j.left t)

abbrev pub step_at : Journey → List ℕ → Journey × Option Shown
step_at j line = step j (times_of line) (riders_of line)

abbrev pub public_call : Numbered → Option Shown → List PublicCall
public_call c None = []
public_call c (Some p) = record { call = c; arrival = p.arrival; departure = p.departure } ∷ []

-- the public calls of numbered lines
abbrev pub public_from : Journey → List Numbered → List PublicCall
public_from j [] = []
public_from j (c ∷ lines) =
    let next = step_at j c.line in public_call c next.1 ++ public_from next.0 lines

abbrev pub public_calls : ℕ × ScheduleLines → List PublicCall
public_calls s = public_from at_first (numbered_from s.0 1 s.1.further)
