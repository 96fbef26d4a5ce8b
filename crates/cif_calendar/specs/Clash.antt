-- Whether the winners of a day agree.
use Rattle.std.specs.Prelude.{◌≡◌, ◌≢◌, ℕ, ◌≤◌, ◌<◌}
use Rattle.cif_calendar.specs.{Terms.Records, Terms.Terms, Wins.Wins}

-- On day d all winners have the same body, or none of them has one.
pub record IsClear {B : Type 0} (records : Records B) (d : ℕ) : Type 0 where
  pub agree : (r s : Terms B) → Wins records d r → Wins records d s → r.body ≡ s.body

-- On day d two winners have different bodies.
pub record IsClash {B : Type 0} (records : Records B) (d : ℕ) : Type 0 where
  pub one : Terms B
  pub other : Terms B
  pub one_wins : Wins records d one
  pub other_wins : Wins records d other
  pub bodies_differ : one.body ≢ other.body

-- Every day from `first` to `last` is clear.
pub record IsClearFrom {B : Type 0} (records : Records B) (first last : ℕ) : Type 0 where
  pub clear : (d : ℕ) → first ≤ d → d ≤ last → IsClear records d

-- Day d is the first from `first` to `last` with a clash: those before it are clear.
pub record IsFirstClash {B : Type 0} (records : Records B) (first last d : ℕ) : Type 0 where
  pub from : first ≤ d
  pub upto : d ≤ last
  pub clash : IsClash records d
  pub clear_before : (e : ℕ) → first ≤ e → e < d → IsClear records e
