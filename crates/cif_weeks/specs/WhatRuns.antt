-- What runs on each day, as records say it.
use Rattle.std.specs.Prelude.{◌≡◌, ℕ, Option, Some, ◌↔◌}
use Rattle.cif_weeks.specs.{Applies.Applies, Permanent.Permanent, Permanent.Permanents, Window.IsWithin, Window.Window}

-- a record with body b applies on day n
pub record HasBody {B : Type 0} (records : Permanents B) (n : ℕ) (b : B) : Type 0 where
  pub it : Permanent B
  pub listed : records it
  pub applies : Applies it n
  pub body : it.body ≡ b

-- The records say what runs: on each day of the window, body b runs exactly where a record with it applies. `body_on`
-- gives the body that runs on a day, or none.
pub record SayWhatRuns {B : Type 0} (window : Window) (body_on : ℕ → Option B) (records : Permanents B) : Type 0 where
  pub says : (n : ℕ) (b : B) → IsWithin window n → (body_on n ≡ Some b) ↔ HasBody records n b

-- Two sets of records say the same: on each day of the window, records with the same bodies apply.
pub record SayTheSame {B : Type 0} (window : Window) (xs ys : Permanents B) : Type 0 where
  pub same : (n : ℕ) (b : B) → IsWithin window n → HasBody xs n b ↔ HasBody ys n b
