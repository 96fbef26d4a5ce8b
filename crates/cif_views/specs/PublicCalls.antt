-- The public calls of a schedule, and when they are.
use Rattle.std.specs.Prelude.{Bool, IfSome, IsNone, List, None, Option, Some, [], codes, if◌then◌else◌, is_some, map, max, not, ℕ, ⊤, ◌&&◌}
use Rattle.std.specs.Prelude.{◌+◌, ◌-◌, ◌||◌, ◌∷◌, ◌≡◌}
use Rattle.std.specs.{List.filter, Option.option_and_then, Option.option_or}
use Rattle.cif_columns.specs.{Activities.codes_in, Activities.has_code, Field.columns, PublicTime.public_seconds, PublicTime.public_time_in}
use Rattle.cif_columns.specs.{WorkTime.work_seconds, WorkTime.work_time_in}
use Rattle.cif_canon.specs.Lines.{ScheduleLines}
use Rattle.cif_rows.specs.{Row.Value, Row.number, declared.shape.Shape.TheVariants.Number, declared.shape.Shape.TheVariants.Whole}
use Rattle.cif_views.specs.Moments.{IsNearest, IsNext, midnight, time_text}
use Rattle.cif_views.specs.Tables.{Numbered, TableFields, calls_of, kind_of_line, text_at}
use Rattle.cif_views.specs.declared.{columns.JourneyKind.JourneyKind, public_calls.CallTimes.CallTimes, public_calls.Riders.Riders}
use Rattle.cif_views.specs.declared.columns.JourneyKind.TheVariants.{Origin, Stop, Terminus}

-- ---- what is read of a call's line

-- the seconds of a working time, and of a public time, if the columns are one
abbrev pub working : List ℕ → Option ℕ
working columns = option_and_then work_seconds (work_time_in columns)

abbrev pub advertised : List ℕ → Option ℕ
advertised columns = option_and_then public_seconds (public_time_in columns)

-- the times of day of a call, in seconds: the working times, and the public ones
abbrev pub times_in : JourneyKind → List ℕ → CallTimes
times_in Origin line = record {
  arrival = None;
  pass = None;
  departure = working (columns 11 15 line);
  public_arrival = None;
  public_departure = advertised (columns 16 19 line);
}
times_in Stop line = record {
  arrival = working (columns 11 15 line);
  pass = working (columns 21 25 line);
  departure = working (columns 16 20 line);
  public_arrival = advertised (columns 26 29 line);
  public_departure = advertised (columns 30 33 line);
}
times_in Terminus line = record {
  arrival = working (columns 11 15 line);
  pass = None;
  departure = None;
  public_arrival = advertised (columns 16 19 line);
  public_departure = None;
}
times_in kind line = record { arrival = None; pass = None; departure = None; public_arrival = None; public_departure = None }

abbrev pub times_of : List ℕ → CallTimes
times_of line = times_in (kind_of_line line) line

-- A call is reached at the first that it has of these, and left at the first that it has of those. One without any isn't timed.
abbrev pub reached_at : CallTimes → Option ℕ
reached_at t = option_or t.arrival (option_or t.pass t.departure)

abbrev pub left_at : CallTimes → Option ℕ
left_at t = option_or t.departure (option_or t.pass t.arrival)

abbrev pub is_timed : Numbered → Bool
is_timed c = is_some (reached_at (times_of c.line))

-- What activities say: that a call is advertised, unless one says that it isn't, or that it is for staff; whether riders may get off, and
-- on; and whether they have to ask.
abbrev pub said_by : List (List ℕ) → Riders
said_by activities = record {
  advertised = not (has_code activities (codes "N ")) && not (has_code activities (codes "S "));
  set_down = has_code activities (codes "T ") || (has_code activities (codes "D ") || has_code activities (codes "TF"));
  pick_up = has_code activities (codes "T ") || (has_code activities (codes "U ") || has_code activities (codes "TB"));
  on_request = has_code activities (codes "R ");
}

-- what those of a call say
abbrev pub riders_in : JourneyKind → List ℕ → Riders
riders_in Origin line = said_by (codes_in (columns 30 41 line))
riders_in Stop line = said_by (codes_in (columns 43 54 line))
riders_in Terminus line = said_by (codes_in (columns 26 37 line))
riders_in kind line = said_by []

abbrev pub riders_of : List ℕ → Riders
riders_of line = riders_in (kind_of_line line) line

-- ---- moments

-- a timed call, with the moments at which it is reached and left
pub record TimedCall : Type 0 where
  pub call : Numbered
  pub reached : ℕ
  pub left : ℕ

-- m is the moment with this time of day behind this one; the first of all is on the schedule's date
abbrev pub IsBehind : Option ℕ → ℕ → ℕ → Type 0
IsBehind None seconds m = m ≡ midnight + seconds
IsBehind (Some p) seconds m = IsNext p seconds m

-- The call is reached behind this moment, and left behind that.
pub record IsTimed (before : Option ℕ) (t : TimedCall) : Type 0 where
  pub reached : IfSome (reached_at (times_of t.call.line)) (λ seconds. IsBehind before seconds t.reached)
  pub left : IfSome (left_at (times_of t.call.line)) (λ seconds. IsNext t.reached seconds t.left)

-- so is each of the calls behind the one before
abbrev pub AreMoments : Option ℕ → List TimedCall → Type 0
AreMoments before [] = ⊤
AreMoments before (t ∷ timed) = IsTimed before t × AreMoments (Some t.left) timed

-- these are the timed ones of the calls, in their order
pub record AreTimed (calls : List Numbered) (timed : List TimedCall) : Type 0 where
  pub calls_are : map (λ t. t.call) timed ≡ filter is_timed calls
  pub moments : AreMoments None timed

-- ---- public calls

-- a call is public if it has a public time and is advertised
abbrev pub is_public : TimedCall → Bool
is_public t =
    let times = times_of t.call.line in
    (is_some times.public_arrival || is_some times.public_departure) && (riders_of t.call.line).advertised

-- The moments of its public arrival and departure. Where it has only one of these, that stands for the other.
pub record ArePublicTimes (t : TimedCall) (arrival departure : ℕ) : Type 0 where
  pub arrival_is : IfSome (times_of t.call.line).public_arrival (λ seconds. IsNearest t.reached seconds arrival)
  pub departure_is : IfSome (times_of t.call.line).public_departure (λ seconds. IsNearest t.left seconds departure)
  pub no_arrival : IsNone (times_of t.call.line).public_arrival → arrival ≡ departure
  pub no_departure : IsNone (times_of t.call.line).public_departure → departure ≡ arrival

-- a public call, with the moments that the table shows
pub record PublicCall : Type 0 where
  pub call : Numbered
  pub arrival : ℕ
  pub departure : ℕ

-- What is shown of a call, behind this moment: moments don't fall, so one that is before the one before it is raised to that.
pub record IsShown (before : ℕ) (t : TimedCall) (p : PublicCall) : Type 0 where
  pub arrival : ℕ
  pub departure : ℕ
  pub times : ArePublicTimes t arrival departure
  pub call : p.call ≡ t.call
  pub arrival_is : p.arrival ≡ max before arrival
  pub departure_is : p.departure ≡ max p.arrival departure

abbrev pub AreShown : ℕ → List TimedCall → List PublicCall → Type 0
AreShown before [] [] = ⊤
AreShown before (t ∷ timed) (p ∷ shown) = IsShown before t p × AreShown p.departure timed shown
AreShown before timed shown = ⊥

-- these are the public calls of a schedule, in their order; none is shown before the midnight at which its date begins
pub record ArePublicCalls (s : ℕ × ScheduleLines) (shown : List PublicCall) : Type 0 where
  pub timed : List TimedCall
  pub are_timed : AreTimed (calls_of s) timed
  pub are_shown : AreShown midnight (filter is_public timed) shown

-- ---- their rows

-- Whether riders may get off, and on: 0 yes, 1 no, 3 on request. Where no activity says so, its public times do.
abbrev pub answer_of : Bool → Bool → List ℕ
answer_of may on_request = if may then (if on_request then codes "3" else codes "0") else codes "1"

abbrev pub set_down : Riders → CallTimes → List ℕ
set_down r t = answer_of (r.set_down || (not r.pick_up && is_some t.public_arrival)) r.on_request

abbrev pub pick_up : Riders → CallTimes → List ℕ
pick_up r t = answer_of (r.pick_up || (not r.set_down && is_some t.public_departure)) r.on_request

-- the columns of its platform
abbrev pub platform_in : JourneyKind → List ℕ → Value
platform_in Stop line = text_at 34 36 line
platform_in kind line = text_at 20 22 line

abbrev pub public_fields : TableFields PublicCall
public_fields =
    (codes "schedule", λ p. number p.call.schedule)
    ∷ (codes "call", λ p. number p.call.call)
    ∷ (codes "location", λ p. text_at 3 9 p.call.line)
    ∷ (codes "platform", λ p. platform_in (kind_of_line p.call.line) p.call.line)
    ∷ (codes "arrival", λ p. (Whole, time_text (p.arrival - midnight)))
    ∷ (codes "departure", λ p. (Whole, time_text (p.departure - midnight)))
    ∷ (codes "set_down", λ p. (Number, set_down (riders_of p.call.line) (times_of p.call.line)))
    ∷ (codes "pick_up", λ p. (Number, pick_up (riders_of p.call.line) (times_of p.call.line)))
    ∷ []
