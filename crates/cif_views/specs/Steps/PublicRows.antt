-- The rows of public calls as the code makes them. No public clause cites them.
use Rattle.std.specs.Prelude.{ℕ, ◌≤◌, ◌&&◌, ◌||◌, ◌+◌, ◌*◌, ◌-◌, ◌^◌, ◌<◌, IfSome, List, [], ◌∷◌, None, Option, Some}
use Rattle.cif_rows.specs.Row.{Field, Value, all_named, number}
use Rattle.cif_rows.specs.declared.shape.Shape.TheVariants.{Number, Whole}
use Rattle.cif_views.specs.Moments.{IsBy, day, midnight, time_text}
use Rattle.cif_views.specs.PublicCalls.{pick_up, platform_in, public_fields, riders_of, set_down, times_of}
use Rattle.cif_views.specs.{declared.public_calls.Journey.Journey, declared.public_calls.Riders.Riders}
use Rattle.cif_views.specs.{declared.public_calls.Shown.Shown, declared.public_calls.Stay.Stay}
use Rattle.cif_views.specs.Tables.{kind_of_line, names, text_at}

-- the values of a public call, whose schedule has this numeral
abbrev pub public_values : List ℕ → ℕ → List ℕ → Shown → List Value
public_values schedule call line shown =
    (Number, schedule)
    ∷ number call
    ∷ text_at 3 9 line
    ∷ platform_in (kind_of_line line) line
    ∷ (Whole, time_text (shown.arrival - midnight))
    ∷ (Whole, time_text (shown.departure - midnight))
    ∷ (Number, set_down (riders_of line) (times_of line))
    ∷ (Number, pick_up (riders_of line) (times_of line))
    ∷ []

-- its row; a line that is no public call has none
abbrev pub row_of_step : List ℕ → ℕ → List ℕ → Option Shown → List (List Field)
row_of_step schedule call line None = []
row_of_step schedule call line (Some shown) = all_named (names public_fields) (public_values schedule call line shown) ∷ []

-- the moments of what is said of a public call
abbrev pub shown_in : Option (Shown × Riders) → Option Shown
shown_in None = None
shown_in (Some public) = Some public.0

-- what both say of riders
abbrev pub joined : Riders → Riders → Riders
joined r s = record {
  advertised = r.advertised && s.advertised;
  set_down = r.set_down || s.set_down;
  pick_up = r.pick_up || s.pick_up;
  on_request = r.on_request || s.on_request;
}

-- a call is reached, and then left, after so many moments
pub record IsStayBy (n : ℕ) (s : Stay) : Type 0 where
  pub reached : IsBy (n + 1) s.reached
  pub left : IsBy (n + 2) s.left

-- a journey after so many moments
pub record IsJourneyBy (n : ℕ) (j : Journey) : Type 0 where
  pub left : IfSome j.left (IsBy n)
  pub late : midnight ≤ j.shown
  pub early : j.shown ≤ midnight + day * (n + 1)

-- moments that can be shown
pub record IsToShow (s : Shown) : Type 0 where
  pub arrival : midnight ≤ s.arrival
  pub departure : s.arrival ≤ s.departure
  pub early : s.departure < day * 2 ^ 100
