-- What stands on a day, by the records of a key.
use Rattle.std.specs.Prelude.{◌≡◌, ℕ, ◌+◌, ◌<◌, List, length, slice_index_or}
use Rattle.cif_columns.specs.declared.stp.Stp.{Stp}
use Rattle.cif_calendar.specs.{Applies.Applies, Clash.IsClash, Clash.IsClear, Terms.Records, Terms.Terms, Wins.Wins}
use Rattle.cif_calendar.specs.declared.day_state.DayState.{DayState}
use Rattle.cif_calendar.specs.declared.day_state.DayState.TheVariants as state

-- a winner of day d has this letter
pub record IsWinningLetter {B : Type 0} (records : Records B) (d : ℕ) (letter : Stp) : Type 0 where
  pub winner : Terms B
  pub wins : Wins records d winner
  pub letter_is : winner.letter ≡ letter

-- On day d no record applies; or two winners have different bodies; or all winners have the same body or none, and this letter.
abbrev pub IsDayState : {B : Type 0} → Records B → ℕ → DayState → Type 0
IsDayState {B} records d state.NoneApplies = (r : Terms B) → records r → ¬ Applies r d
IsDayState records d state.Clash = IsClash records d
IsDayState records d (state.Letter letter) = IsWinningLetter records d letter × IsClear records d

-- these stand on the days from `first` to the one before `to`, one on each
pub record AreDayStates {B : Type 0} (records : Records B) (first to : ℕ) (states : List DayState) : Type 0 where
  pub many : first + length states ≡ to
  pub each : (i : ℕ) → i < length states → IsDayState records (first + i) (slice_index_or states i state.NoneApplies)
