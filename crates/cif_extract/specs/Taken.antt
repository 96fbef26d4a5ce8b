-- What a reading that takes lines one by one has come to, in terms of these lines.
use Rattle.std.specs.Prelude.{◌≡◌, ◌≢◌, ℕ, List, [], ◌∷◌, ◌++◌, All, Option, None, Some, Result, Ok, Err}
use Rattle.cif_columns.specs.declared.refusal.Refusal.{Refusal}
use Rattle.cif_extract.specs.{FirstRefusal.order_refusal, Layouts.Layouts, OrderOfRecords.place_behind_by, SpellsExtract.SpellAllBy}
use Rattle.cif_extract.specs.{Steps.Reading.HasRead, Steps.Reading.Progress}
use Rattle.cif_extract.specs.declared.{place.Place.Place, place.Place.TheVariants.Ended, reading.TakeFault.TakeFault}
use Rattle.cif_extract.specs.declared.{reading.TakeFault.TheVariants.Memory, reading.TakeFault.TheVariants.Refused}
use Rattle.cif_records.specs.{Checks.first_of, declared.record.Kind.TheVariants.Zz, declared.record.Record.Record}

-- the line is no trailer
abbrev pub IsNoTrailer : Layouts → List ℕ → Type 0
IsNoTrailer layouts line = layouts.kind line ≢ Some Zz

-- The first reason to refuse a line at a place, and behind these lines: for its place, or as a record. In terms of it the clauses say
-- which lines are taken; `refusal_of` says the same of the contents of bytes.
abbrev pub refusal_at : Layouts → Place → List ℕ → Option Refusal
refusal_at layouts place line = first_of (order_refusal place (layouts.kind line) ∷ layouts.refusal line ∷ [])

abbrev pub refusal_behind : Layouts → List (List ℕ) → List ℕ → Option Refusal
refusal_behind layouts lines line = refusal_at layouts (place_behind_by layouts lines) line

-- a reading has taken these lines and come to this
pub record HasTaken (layouts : Layouts) (lines : List (List ℕ)) (p : Progress) : Type 0 where
  pub records : List Record
  pub spelled : SpellAllBy layouts.spells lines records
  pub read : HasRead records p
  pub place : place_behind_by layouts lines ≡ p.place
  pub no_trailer : (p.place ≡ Ended → ⊥) → All (IsNoTrailer layouts) lines

-- what comes of one line more, behind these: it is taken, or there is a reason to refuse it, or memory runs out
abbrev pub IsTakenBehind : Layouts → List (List ℕ) → List ℕ → Result Unit TakeFault → Progress → Type 0
IsTakenBehind layouts lines line (Ok taken) after =
    (refusal_behind layouts lines line ≡ None) × HasTaken layouts (lines ++ (line ∷ [])) after
IsTakenBehind layouts lines line (Err (Refused why)) after = refusal_behind layouts lines line ≡ Some why
IsTakenBehind layouts lines line (Err Memory) after = Unit {0}
