-- What runs on a day.
use Rattle.std.specs.Prelude.{◌≡◌, ℕ, Option, Some, None}
use Rattle.cif_columns.specs.declared.stp.Stp.TheVariants.{C}
use Rattle.cif_calendar.specs.{Terms.Records, Terms.Terms, Wins.Wins}

-- On day d body b runs: a winner has it.
pub record BodyRuns {B : Type 0} (records : Records B) (d : ℕ) (b : B) : Type 0 where
  pub winner : Terms B
  pub wins : Wins records d winner
  pub body : winner.body ≡ Some b

-- On day d nothing runs: no record wins, or the winners are cancellations.
pub record NothingRuns {B : Type 0} (records : Records B) (d : ℕ) : Type 0 where
  pub cancelled : (r : Terms B) → Wins records d r → r.letter ≡ C

-- What runs on day d: a winner's body, or none.
abbrev pub Runs : {B : Type 0} → Records B → ℕ → Option B → Type 0
Runs records d None = NothingRuns records d
Runs records d (Some b) = BodyRuns records d b
