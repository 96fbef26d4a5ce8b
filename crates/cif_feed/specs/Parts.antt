-- The parts of a record: the ranges of its days between its cuts.
use Rattle.std.specs.Prelude.{◌≡◌, ◌⊎◌, ℕ, ◌+◌, ◌<◌, ◌≤◌, List, All, AllPairs, Contains}
use Rattle.cif_calendar.specs.{Applies.Applies, Terms.Terms}

-- a range of days, from the first to the last
pub record Part : Type 0 where
  pub first : ℕ
  pub last : ℕ

-- a record that ends on this day
abbrev pub ended : {B : Type 0} → ℕ → Terms B → Terms B
ended last r = record r { last = last }

-- Day d is a cut of a record that some days stop: it is one of these, from the record's first to its last day, and its weekday is in the
-- mask.
pub record IsCut {B : Type 0} (Stops : ℕ → Type 0) (r : Terms B) (d : ℕ) : Type 0 where
  pub applies : Applies r d
  pub stops : Stops d

-- The part is a range of the record's days without a cut, and as long as it can be: before it is a cut or nothing, and so after it.
pub record IsPart {B : Type 0} (Stops : ℕ → Type 0) (r : Terms B) (p : Part) : Type 0 where
  pub in_order : p.first ≤ p.last
  pub from : r.first ≤ p.first
  pub upto : p.last ≤ r.last
  pub whole : (d : ℕ) → p.first ≤ d → d ≤ p.last → ¬ IsCut Stops r d
  pub begins : (p.first ≡ r.first) ⊎ ((cut : ℕ) × (p.first ≡ cut + 1) × IsCut Stops r cut)
  pub ends : (p.last ≡ r.last) ⊎ IsCut Stops r (p.last + 1)

-- one part ends before another begins
abbrev pub IsBefore : Part → Part → Type 0
IsBefore p q = p.last < q.first

-- one of the parts has the day
abbrev pub HaveDay : List Part → ℕ → Type 0
HaveDay parts d = (p : Part) × Contains parts p × (p.first ≤ d) × (d ≤ p.last)

-- These are the parts of the record, in their order: each of its days is in one of them, or a cut.
pub record AreParts {B : Type 0} (Stops : ℕ → Type 0) (r : Terms B) (parts : List Part) : Type 0 where
  pub rising : AllPairs IsBefore parts
  pub are : All (IsPart Stops r) parts
  pub covered : (d : ℕ) → r.first ≤ d → d ≤ r.last → HaveDay parts d ⊎ IsCut Stops r d
