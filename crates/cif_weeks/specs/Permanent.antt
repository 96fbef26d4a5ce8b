-- Permanent records, sets of them, and what they are as entries of the calendar.
use Rattle.std.specs.Prelude.{ℕ, List, map, Bool, Some}
use Rattle.cif_columns.specs.declared.stp.Stp.TheVariants.{P}
use Rattle.cif_calendar.specs.Terms.{Terms}

-- What a permanent record says, its key aside: its first and last day, its mask (seven weekdays, Monday first) and what
-- runs. B is the type of bodies.
pub record Permanent (B : Type 0) : Type 0 where
  pub first : ℕ
  pub last : ℕ
  pub days : List Bool
  pub body : B

-- a set of records, as the property of being one of them
abbrev pub Permanents : Type 0 → Type 1
Permanents B = Permanent B → Type 0

-- its terms as those of an entry: the letter is P
abbrev pub terms_of : {B : Type 0} → Permanent B → Terms B
terms_of r = record { first = r.first; last = r.last; days = r.days; letter = P; body = Some r.body }

-- records with their keys, as entries
abbrev pub permanent_entries : {K B : Type 0} → List (K × Permanent B) → List (K × Terms B)
permanent_entries {K} {B} records = map (λ (e : K × Permanent B). (e.0, terms_of e.1)) records
