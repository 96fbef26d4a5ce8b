-- The runs of both sides, and their records. No public clause cites them.
use Rattle.std.specs.Prelude.{ℕ, List, [], ◌∷◌, Option, None, Some}
use Rattle.cif_calendar.specs.Terms.{Terms}
use Rattle.cif_weeks.specs.{Permanent.Permanent, declared.form.Run.Run}
use Rattle.cif_canon.specs.{Differences.at_side, declared.listed_differences.Side.Side, declared.listed_differences.Sided.Sided}
use Rattle.cif_canon.specs.Steps.Texts.{HasRecord, record_at, run_text}

-- a run that has a record among the entries of its side
abbrev pub HasSidedRecord : {K B : Type 0} → List (K × Terms B) → List (K × Terms B) → Sided Run → Type 0
HasSidedRecord xs ys s = HasRecord (at_side xs ys s.side) s.it

-- the record, if there is one, before others
abbrev pub with_record : {A : Type 0} → Side → Option A → List (Sided A) → List (Sided A)
with_record side None others = others
with_record side (Some a) others = record { side = side; it = a } ∷ others

-- the records of the runs, with their sides
abbrev pub sided_records : {K B : Type 0} → List (K × Terms B) → List (K × Terms B) → List (Sided Run)
    → List (Sided (K × Permanent B))
sided_records xs ys [] = []
sided_records xs ys (s ∷ rest) = with_record s.side (record_at (at_side xs ys s.side) s.it) (sided_records xs ys rest)

-- the text of a run: that of its record, with its side
abbrev pub sided_run_text : {K B : Type 0} → (Sided (K × Permanent B) → List ℕ) → List (K × Terms B) → List (K × Terms B)
    → Sided Run → List ℕ
sided_run_text text xs ys s = run_text (λ e. text (record { side = s.side; it = e })) (at_side xs ys s.side) s.it
