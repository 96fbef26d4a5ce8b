-- What a list of records says.
use Rattle.std.specs.Prelude.{ℕ, ◌≤◌, List, Option, ◌↔◌}
use Rattle.cif_calendar.specs.{Keys.of_key, Runs.Runs, Terms.Terms}

-- Two lists say the same of the days from `first` to `last`: for each key, the same runs on each of them.
pub record EntriesSayTheSame {K B : Type 0} (xs ys : List (K × Terms B)) (first last : ℕ) : Type 0 where
  pub same : (k : K) (d : ℕ) (o : Option B) → first ≤ d → d ≤ last → Runs (of_key xs k) d o ↔ Runs (of_key ys k) d o
