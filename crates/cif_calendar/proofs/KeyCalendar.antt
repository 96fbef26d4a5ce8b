-- A calendar of all of a key's entries says what runs for the key.
use Rattle.cif_calendar.proofs.Names.{Ambiguous, ArePositionsOf, C, CalendarFault, CalendarParts, IsCalendar, IsChosen, IsClearFrom}
use Rattle.cif_calendar.proofs.Names.{IsFault, IsNone, IsSome, IsSource, IsWinnerAt, List, Memory, Option, Runs, Some, Terms, Wins, body_on}
use Rattle.cif_calendar.proofs.Names.{keyed, map, of_key, same_Some, slice_get, source_at, subst, sym, ℕ, ◌↔◌, ◌∙◌, ◌≡◌, ◌≤◌}
use Rattle.cif_calendar.proofs.{Meaning.Runs-unique, Positions.AreLawful-of_key, Positions.positions-records, Positions.terms_at-keyed}
use Rattle.cif_calendar.proofs.Sets.{IsClearFrom-same, IsFirstClash-same, Runs-same, Wins-same}

module _ {E K B : Type 0} (key : E → K) (terms : E → Terms B) (es : List E) (k : K) (members : List ℕ)
    (p : ArePositionsOf (keyed key terms es) k members) where
  -- a fault of the members' calendar is one of the key
  pub key-fault : (first last : ℕ) (fault : CalendarFault) → IsFault (IsChosen (map terms es) members) first last fault →
      IsFault (of_key (keyed key terms es) k) first last fault
  key-fault first last (Ambiguous d) h = IsFirstClash-same _ _ (positions-records key terms es k members p) first last d h
  key-fault first last Memory h = tt

  module _ (first last : ℕ) (c : CalendarParts) (cal : IsCalendar (map terms es) members first last c) where
    pub key-clear : IsClearFrom (of_key (keyed key terms es) k) first last
    key-clear = IsClearFrom-same _ _ (positions-records key terms es k members p) first last cal.clear

    -- what runs for the key is what the calendar has, and nothing else
    pub key-runs : ((e : E) → IsNone (terms e).body ↔ ((terms e).letter ≡ C)) → (d : ℕ) (o : Option B) → first ≤ d → d ≤ last →
        (body_on (map terms es) c d ≡ o) ↔ Runs (of_key (keyed key terms es) k) d o
    key-runs cancelled d o from upto =
        let says : Runs (of_key (keyed key terms es) k) d (body_on (map terms es) c d) =
        Runs-same _ _ (positions-records key terms es k members p) d (body_on (map terms es) c d) (cal.runs d from upto) in (
          λ is. subst (λ v. Runs (of_key (keyed key terms es) k) d v) is says,
          λ runs. Runs-unique (of_key (keyed key terms es) k) d (body_on (map terms es) c d) o
              (AreLawful-of_key key terms cancelled es k) (key-clear.clear d from upto) says runs,
        )

    -- a day's source is the position of a winner of the key that has a body
    pub key-source : (d i : ℕ) → first ≤ d → d ≤ last → source_at c.pieces d ≡ Some i →
        (r : Terms B) × (slice_get (keyed key terms es) i ≡ Some (k, r)) × Wins (of_key (keyed key terms es) k) d r × IsSome r.body
    key-source d i from upto is =
        let w : IsWinnerAt (map terms es) members d i =
        subst (λ o. IsSource (map terms es) members d o) is (cal.sources d from upto) in
        let (r, at) = p.found i w.member in
        let same : w.winner ≡ r = same_Some w.winner r (sym w.at ∙ terms_at-keyed key terms es i k r at) in (
          r,
          at,
          subst (λ t. Wins (of_key (keyed key terms es) k) d t) same
              (Wins-same _ _ (positions-records key terms es k members p) d w.winner w.wins),
          subst (λ (t : Terms B). IsSome t.body) same w.runs,
        )
