-- What the rules read of a record, and sets of records.
use Rattle.std.specs.Prelude.{◌≡◌, ℕ, ◌^◌, ◌<◌, Bool, List, Option, IsNone, length, ◌↔◌}
use Rattle.cif_columns.specs.declared.{stp.Stp.Stp, stp.Stp.TheVariants.C}

-- The terms of one record: its first and last day, its mask, its letter, and what runs. B is the type of bodies.
pub record Terms (B : Type 0) : Type 0 where
  pub first : ℕ
  pub last : ℕ
  pub days : List Bool
  pub letter : Stp
  pub body : Option B

-- a set of records, as the property of being one of them
abbrev pub Records : Type 0 → Type 1
Records B = Terms B → Type 0

-- two sets have the same records
pub record SameRecords {B : Type 0} (xs ys : Records B) : Type 0 where
  pub same : (r : Terms B) → xs r ↔ ys r

-- of these records the cancellations, and they alone, have no body
pub record AreLawful {B : Type 0} (records : Records B) : Type 0 where
  pub cancelled : (r : Terms B) → records r → IsNone r.body ↔ (r.letter ≡ C)

-- records that are judged together: those at some positions of a list, so many as memory has room for
pub record Judged (B : Type 0) : Type 0 where
  pub terms : List (Terms B)
  pub positions : List ℕ
  pub few : length positions < 2 ^ 60
