-- The records at some positions of a list, and the position of a winner among them.
use Rattle.std.specs.Prelude.{◌≡◌, ℕ, List, Option, Some, None, IsSome, Contains, slice_get}
use Rattle.std.specs.Option.{option_and_then}
use Rattle.cif_calendar.specs.{Runs.NothingRuns, Terms.Terms, Wins.Wins}

-- the records of xs at the members' positions
pub record IsChosen {B : Type 0} (xs : List (Terms B)) (members : List ℕ) (r : Terms B) : Type 0 where
  pub position : ℕ
  pub member : Contains members position
  pub at : slice_get xs position ≡ Some r

-- A winner of day d with a body stands at position i, and i is a member.
pub record IsWinnerAt {B : Type 0} (xs : List (Terms B)) (members : List ℕ) (d i : ℕ) : Type 0 where
  pub member : Contains members i
  pub winner : Terms B
  pub at : slice_get xs i ≡ Some winner
  pub wins : Wins (IsChosen xs members) d winner
  pub runs : IsSome winner.body

-- The source of day d: the position of a winner with a body, or none exactly where nothing runs.
abbrev pub IsSource : {B : Type 0} → List (Terms B) → List ℕ → ℕ → Option ℕ → Type 0
IsSource xs members d None = NothingRuns (IsChosen xs members) d
IsSource xs members d (Some i) = IsWinnerAt xs members d i

-- the body of the record at a position, if there is one
abbrev pub body_at : {B : Type 0} → List (Terms B) → Option ℕ → Option B
body_at xs None = None
body_at xs (Some i) = option_and_then (λ r. r.body) (slice_get xs i)
