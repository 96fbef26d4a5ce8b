-- BS: a basic schedule, its columns, and the reasons to refuse one.
use Rattle.std.specs.Prelude.{◌≡◌, ℕ, Bool, List, [], ◌∷◌, ◌++◌, Option, codes}
use Rattle.cif_columns.specs.Field.{AllStandIn, FieldValue, Row, row, columns, exactly, date, weekdays, indicator, spare}
use Rattle.cif_columns.specs.declared.{refusal.Refusal.Refusal, stp.Stp.Stp}
use Rattle.cif_records.specs.Checks.{bank_holiday_refusal, dates_refusal, days_refusal, first_of, identity_refusal, letter_refusal}
use Rattle.cif_records.specs.{Checks.transaction_refusal, Detail.detail_rows, declared.basic.Basic.Basic}
use Rattle.cif_records.specs.{declared.basic.BasicTerms.BasicTerms, declared.detail.Detail.Detail}

-- columns 1 to 29, where its transaction, its last date, its days and column 29 stand as these values
abbrev pub basic_front_by : List ℕ → List ℕ → ℕ → FieldValue → FieldValue → FieldValue → List Row
basic_front_by transaction uid first last days holiday =
    row 1 2 (exactly (codes "BS"))
    ∷ row 3 3 (exactly transaction)
    ∷ row 4 9 (exactly uid)
    ∷ row 10 15 (date first)
    ∷ row 16 21 last
    ∷ row 22 28 days
    ∷ row 29 29 holiday
    ∷ []

-- as an extract of this profile has them
abbrev pub basic_front : List ℕ → ℕ → ℕ → List Bool → List Row
basic_front uid first last days = basic_front_by (codes "N") uid first (date last) (weekdays days) (exactly (codes " "))

-- columns 79 and 80
abbrev pub basic_back : Stp → List Row
basic_back letter =
    row 79 79 spare
    ∷ row 80 80 (indicator letter)
    ∷ []

-- the columns of a basic schedule with these fields
abbrev pub basic_rows : List ℕ → ℕ → ℕ → List Bool → Stp → Option Detail → List Row
basic_rows uid first last days letter detail = basic_front uid first last days ++ (detail_rows detail ++ basic_back letter)

-- the columns of a basic schedule with these terms
abbrev pub terms_rows : BasicTerms → Option Detail → List Row
terms_rows t detail = basic_rows t.uid t.first t.last t.days t.letter detail

-- the columns of this basic schedule
abbrev pub basic_table : Basic → List Row
basic_table r = basic_rows r.uid r.first r.last r.days r.letter r.detail

-- The line spells the schedule: each of its values stands in its columns. That the first date isn't after the last, and that there
-- is no detail exactly for a cancellation, are invariants of the type `Basic`.
abbrev pub SpellsBasic : List ℕ → Basic → Type 0
SpellsBasic line r = AllStandIn line (basic_table r)

-- what a basic schedule says but for its detail
abbrev pub terms_of : Basic → BasicTerms
terms_of r = record { uid = r.uid; first = r.first; last = r.last; days = r.days; letter = r.letter; in_order = r.in_order }

-- the line spells a basic schedule with these terms
pub record SpellsTerms (line : List ℕ) (t : BasicTerms) : Type 0 where
  pub basic : Basic
  pub spells : SpellsBasic line basic
  pub terms : t ≡ terms_of basic

-- the first reason to refuse a line as a basic schedule
unfoldable pub basic_refusal : List ℕ → Option Refusal
basic_refusal line = first_of (
    identity_refusal (codes "BS") line
    ∷ transaction_refusal line
    ∷ dates_refusal (columns 10 15 line) (columns 16 21 line)
    ∷ days_refusal (columns 22 28 line)
    ∷ bank_holiday_refusal line
    ∷ letter_refusal line
    ∷ [])
