-- The rows of public calls, as they are written line by line.
use Rattle.cif_views.proofs.Names.{CallTimes, Journey, JourneyKind, List, None, Numbered, Option, Shown, Some, [], ap, append-nil}
use Rattle.cif_views.proofs.Names.{append_assoc, arith, cond, decimal, is_call, kind_of_line, length, map, map-append}
use Rattle.cif_views.proofs.Names.{numbered_from, public_call, public_fields, public_from, refl, row_of, row_of_step, step_at}
use Rattle.cif_views.proofs.Names.{sym, ℕ, ◌++◌, ◌+◌, ◌∙◌, ◌∷◌, ◌≡◌}
use Rattle.cif_views.proofs.RowNames.{Field}
use Rattle.cif_views.{specs.PublicCalls.riders_in, specs.PublicCalls.times_in, specs.Steps.PublicCalls.step}

-- a step by what is read of the line is that of the line
pub step-is : (j next : Journey) (shown : Option Shown) (kind : JourneyKind) (line : List ℕ) (times : CallTimes) →
    kind ≡ kind_of_line line → times ≡ times_in kind line → (next, shown) ≡ step j times (riders_in kind line) →
    (next, shown) ≡ step_at j line
step-is j next shown kind line times is_kind are_times is =
    is
    ∙ ap (λ (t : CallTimes). step j t (riders_in kind line)) are_times
    ∙ ap (λ (k : JourneyKind). step j (times_in k line) (riders_in k line)) is_kind

pub same-row : (schedule : List ℕ) (call : ℕ) (j next : Journey) (line : List ℕ) (shown : Option Shown) →
    (next, shown) ≡ step_at j line → row_of_step schedule call line shown ≡ row_of_step schedule call line (step_at j line).1
same-row schedule call j next line shown is = ap (λ (p : Journey × Option Shown). row_of_step schedule call line p.1) is

module _ (schedule : ℕ) where
  -- the rows of the lines that are left
  abbrev pub rows_left : Journey → ℕ → List (List ℕ) → List (List Field)
  rows_left j call lines = map (row_of public_fields) (public_from j (numbered_from schedule call lines))

  -- a line is numbered so
  abbrev pub numbered : ℕ → List ℕ → Numbered
  numbered call line = record { schedule = schedule; call = call; line = line }

  -- what is written of a line is its row
  pub one-row : (call : ℕ) (line : List ℕ) (shown : Option Shown) →
      row_of_step (decimal schedule) call line shown ≡ map (row_of public_fields) (public_call (numbered call line) shown)
  one-row call line None = refl
  one-row call line (Some shown) = refl

  -- the rows so far, and those of the lines that are left, are all
  module _ (whole : List (List Field)) where
    abbrev pub AreLeft : List (List Field) → Journey → ℕ → List (List ℕ) → Type 0
    AreLeft done j call lines = done ++ rows_left j call lines ≡ whole

    pub one-line : (done : List (List Field)) (number : List ℕ) (j next : Journey) (kind : JourneyKind) (call then : ℕ) (lines : List (List ℕ))
        (line : List ℕ) (rest : List (List ℕ)) → lines ≡ line ∷ rest → number ≡ decimal schedule → kind ≡ kind_of_line line →
        next ≡ (step_at j line).0 → then ≡ cond (is_call kind) (call + 1) call → AreLeft done j call lines →
        AreLeft (done ++ row_of_step number call line (step_at j line).1) next then rest
    one-line done number j next kind call then lines line rest is number_is kind_is next_is then_is left =
        let shown = step_at j line in
        let own = public_call (numbered call line) shown.1 in
        let after_call = cond (is_call (kind_of_line line)) (call + 1) call in
        let others = public_from shown.0 (numbered_from schedule after_call rest) in
        let same : (done ++ row_of_step (decimal schedule) call line shown.1) ++ rows_left shown.0 after_call rest ≡ whole =
        ap (λ (l : List (List Field)). (done ++ l) ++ rows_left shown.0 after_call rest) (one-row call line shown.1)
        ∙ append_assoc done (map (row_of public_fields) own) (rows_left shown.0 after_call rest)
        ∙ ap (λ (l : List (List Field)). done ++ l) (sym (map-append (row_of public_fields) own others))
        ∙ ap (λ (ls : List (List ℕ)). done ++ rows_left j call ls) (sym is)
        ∙ left in
        rw (number_is, next_is, then_is, kind_is) same

    pub none-left : (done : List (List Field)) (j : Journey) (call : ℕ) (lines : List (List ℕ)) → length lines ≡ 0 →
        AreLeft done j call lines → done ≡ whole
    none-left done j call [] none left = sym (append-nil done) ∙ left
    none-left done j call (line ∷ lines) none left = absurd (omega (arith, none))
