-- Which records win on a day.
use Rattle.std.specs.Prelude.{ℕ, ◌≤◌}
use Rattle.cif_columns.specs.Stp.{letter}
use Rattle.cif_calendar.specs.{Applies.Applies, Terms.Records, Terms.Terms}

-- A record's precedence, the least first: that of its letter, in the alphabet's order C, N, O, P.
abbrev pub precedence : {B : Type 0} → Terms B → ℕ
precedence r = letter r.letter

-- A winner of day d: a record that applies, where none that applies comes before it.
pub record Wins {B : Type 0} (records : Records B) (d : ℕ) (r : Terms B) : Type 0 where
  pub listed : records r
  pub applies : Applies r d
  pub least : (s : Terms B) → records s → Applies s d → precedence r ≤ precedence s
