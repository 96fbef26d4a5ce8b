-- Stretches of days, one after another, and who leads on them. No public clause cites it.
use Rattle.std.specs.Prelude.{◌≡◌, ℕ, ◌+◌, ◌<◌, ◌≤◌, List, [], ◌∷◌, ◌++◌, length, slice_index_or, ◌⊎◌}
use Rattle.cif_columns.specs.Day.{weekday_of}
use Rattle.cif_calendar.specs.{Pieces.ChangesOn, Pieces.IsUnbroken, Source.IsChosen, Terms.Terms}
use Rattle.cif_calendar.specs.Steps.Standing.{AreBelow, Combines, Stands}
use Rattle.cif_calendar.specs.declared.{applies.Window.Window, standing.Standing.Standing, standing.Standing.TheVariants.Disputed}
use Rattle.cif_calendar.specs.declared.{standing.Standing.TheVariants.Nobody, stretch.Stretch.Stretch}

-- The stretch begins on day `first` and has no break by the members that were looked at, and the standings of its days are theirs.
-- On the day behind it one of them begins or has just ended, or that day is `end`.
pub record IsStretch {B : Type 0} (xs : List (Terms B)) (members looked : List ℕ) (end first : ℕ) (s : Stretch) : Type 0 where
  pub in_order : first ≤ s.last
  pub upto : s.last < end
  pub unbroken : IsUnbroken (IsChosen xs looked) first s.last
  pub change : (s.last + 1 ≡ end) ⊎ ChangesOn (IsChosen xs looked) (s.last + 1)
  pub below : AreBelow (length members) s.standings
  pub stands : (d : ℕ) → first ≤ d → d ≤ s.last →
      Stands xs members (IsChosen xs looked) d (slice_index_or s.standings (weekday_of d) Nobody)

-- stretches from day `first` to the day before `to`
abbrev pub AreStretches : {B : Type 0} → List (Terms B) → List ℕ → List ℕ → ℕ → ℕ → ℕ → List Stretch → Type 0
AreStretches xs members looked end first to [] = first ≡ to
AreStretches xs members looked end first to (s ∷ ss) =
    IsStretch xs members looked end first s × AreStretches xs members looked end (s.last + 1) to ss

-- the stretches of some members over the days of a window
abbrev pub AreStretchesOf : {B : Type 0} → List (Terms B) → List ℕ → List ℕ → Window → List Stretch → Type 0
AreStretchesOf xs members looked window ss = AreStretches xs members looked (window.last + 1) window.first (window.last + 1) ss

-- the stretch of two sets of members together, from a day on that both stretches have, ends with the sooner of them
pub record IsJoint {B : Type 0} (xs : List (Terms B)) (members : List ℕ) (one other both : Stretch) : Type 0 where
  pub upto_one : both.last ≤ one.last
  pub upto_other : both.last ≤ other.last
  pub ends : (both.last ≡ one.last) ⊎ (both.last ≡ other.last)
  pub below : AreBelow (length members) both.standings
  pub each : (w : ℕ) → w < 7 → Combines xs members (slice_index_or one.standings w Nobody) (slice_index_or other.standings w Nobody)
      (slice_index_or both.standings w Nobody)

-- the part is that of the members from the one with number k on
pub record IsPart (members : List ℕ) (k : ℕ) (part : List ℕ) : Type 0 where
  pub within : k + length part ≤ length members
  pub same : (j d : ℕ) → j < length part → slice_index_or members (k + j) d ≡ slice_index_or part j d

-- the stretches that are left behind a day, where only the first may end by then
abbrev pub AreBehind : List Stretch → ℕ → List Stretch → Type 0
AreBehind [] day rest = rest ≡ []
AreBehind (s ∷ ss) day rest = ((s.last ≤ day) × (rest ≡ ss)) ⊎ ((day < s.last) × (rest ≡ s ∷ ss))

-- the day comes behind those that were known, if two winners differ on it
abbrev pub AddsIfDisputed : Standing → ℕ → List ℕ → List ℕ → Type 0
AddsIfDisputed (Disputed k) day old new = new ≡ old ++ day ∷ []
AddsIfDisputed _ day old new = new ≡ old
