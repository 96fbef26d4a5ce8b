-- Of a key without entries nothing runs.
use Rattle.cif_calendar.proofs.Names.{IsClearFrom, Records, Terms, ℕ}

module _ {B : Type 0} (records : Records B) (none : (r : Terms B) → records r → ⊥) where
  pub none-clear : (first last : ℕ) → IsClearFrom records first last
  none-clear first last = record { clear = λ d from upto. record { agree = λ r s v w. absurd (none r v.listed) } }
