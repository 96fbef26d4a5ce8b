-- The sources of a calendar and of its runs.
use Rattle.cif_weeks.proofs.Names.{All, All-cons, All-head, All-nil, All-tail, AllZip, AreCanonicalRuns, AreSources, CalendarParts}
use Rattle.cif_weeks.proofs.Names.{Contains-get_or, Form, IsCalendar, IsRunOf, IsSome, IsSource, IsWinnerAt, IsWithin, List, Meets, Option}
use Rattle.cif_weeks.proofs.Names.{Permanent, Run, Some, Terms, Window, [], body_on, get_or, option_and_then, source_at, subst, sym}
use Rattle.cif_weeks.proofs.Names.{window_of, ℕ, ◌∷◌, ◌≡◌, ◌≤◌}
use Rattle.cif_weeks.proofs.AlignedDays.{tight}

-- the records of a list that meets a form begin in the window
pub firsts-within : {B : Type 0} (form : Form) (window : Window) (body_on : ℕ → Option B) (records : List (Permanent B)) →
    Meets form window body_on records → All (λ r. IsWithin window r.first) records
firsts-within form window body_on records m i d below =
    (tight (get_or records i d) window form (m.have_form.aligned (get_or records i d) (Contains-get_or records i d below))).first_within

module _ {B : Type 0} (xs : List (Terms B)) (members : List ℕ) (first last : ℕ) (c : CalendarParts)
    (says : IsCalendar xs members first last c) where
  -- each is the position of a winner of its day
  source-wins : (n i : ℕ) → IsWithin (window_of c) n → source_at c.pieces n ≡ Some i → IsWinnerAt xs members n i
  source-wins n i within e = subst (λ s. IsSource xs members n s) e
      (says.sources n (subst (λ f. f ≤ n) says.first_is within.from) (subst (λ l. n ≤ l) says.last_is within.upto))

  -- so it's that of an entry with a body
  pub calendar_sources : AreSources xs c
  calendar_sources = record {
    bodied = λ n i from upto e.
        let wins = source-wins n i (record { from = from; upto = upto }) e in
        subst (λ r. IsSome (option_and_then (λ r. r.body) r)) (sym wins.at) wins.runs;
  }

  each-wins : (runs : List Run) (records : List (Permanent B)) → AllZip (IsRunOf xs c) runs records →
      All (λ r. IsWithin (window_of c) r.first) records → All (λ run. IsWinnerAt xs members run.first run.source) runs
  each-wins [] records z within = All-nil _
  each-wins (run ∷ runs) [] z within = absurd z
  each-wins (run ∷ runs) (r ∷ records) z within =
      All-cons (λ (run : Run). IsWinnerAt xs members run.first run.source) run runs
      (source-wins run.first run.source
      (subst (λ (s : Permanent B). IsWithin (window_of c) s.first) z.0.dates
      (All-head (λ s. IsWithin (window_of c) s.first) r records within)) z.0.source)
      (each-wins runs records z.1 (All-tail (λ s. IsWithin (window_of c) s.first) r records within))

  -- the source of a run is the position of a winner of its first day
  pub runs-win : (form : Form) (runs : List Run) → AreCanonicalRuns form xs c runs →
      All (λ run. IsWinnerAt xs members run.first run.source) runs
  runs-win form runs a = each-wins runs a.records a.runs_of (firsts-within form (window_of c) (body_on xs c) a.records a.meets)
