-- Stretches of days on which what runs goes by the weekday alone.
use Rattle.std.specs.Prelude.{◌≡◌, ℕ, ◌+◌, ◌<◌, ◌≤◌, List, [], ◌∷◌, Option, None, nat_le, if◌then◌else◌, slice_index_or, Contains, ◌⊎◌}
use Rattle.cif_columns.specs.Day.{weekday_of}
use Rattle.cif_calendar.specs.{Clash.IsClearFrom, Source.IsChosen, Source.IsSource, Terms.Records, Terms.Terms}
use Rattle.cif_calendar.specs.declared.key_calendar.Piece.{Piece}

-- No record begins after day `first` and up to day `last`, or ends from `first` on and before `last`. So on two days between
-- them that have one weekday the same records apply.
pub record IsUnbroken {B : Type 0} (records : Records B) (first last : ℕ) : Type 0 where
  pub begins : (r : Terms B) → records r → first < r.first → last < r.first
  pub ends : (r : Terms B) → records r → first ≤ r.last → last ≤ r.last

-- On day d a record begins, or one has ended the day before, whatever its mask and its letter.
abbrev pub ChangesOn : {B : Type 0} → Records B → ℕ → Type 0
ChangesOn {B} records d = (r : Terms B) × records r × ((d ≡ r.first) ⊎ (d ≡ r.last + 1))

-- Of the days from `first` to `last`, d is the first, or one on which a record begins or has just ended.
pub record IsBoundary {B : Type 0} (records : Records B) (first last d : ℕ) : Type 0 where
  pub from : first ≤ d
  pub upto : d ≤ last
  pub change : (d ≡ first) ⊎ ChangesOn records d

-- the winner that a piece has for the weekday of day d
abbrev pub winner_of : Piece → ℕ → Option ℕ
winner_of p d = slice_index_or p.winners (weekday_of d) None

-- The piece has no break, each of its days is clear and has its weekday's winner as its source, and a weekday that none
-- of its days has is without a winner.
pub record IsPiece {B : Type 0} (xs : List (Terms B)) (members : List ℕ) (p : Piece) : Type 0 where
  pub unbroken : IsUnbroken (IsChosen xs members) p.first p.last
  pub clear : IsClearFrom (IsChosen xs members) p.first p.last
  pub sources : (d : ℕ) → p.first ≤ d → d ≤ p.last → IsSource xs members d (winner_of p d)
  pub idle : (w : ℕ) → ((d : ℕ) → p.first ≤ d → d ≤ p.last → weekday_of d ≡ w → ⊥) → slice_index_or p.winners w None ≡ None

-- The pieces follow one another without a gap, from day `from` to the day before `to`, and each has a day.
abbrev pub Tiles : List Piece → ℕ → ℕ → Type 0
Tiles [] from to = from ≡ to
Tiles (p ∷ ps) from to = (p.first ≡ from) × (p.first ≤ p.last) × Tiles ps (p.last + 1) to

-- a piece begins on day d
abbrev pub BeginsPiece : List Piece → ℕ → Type 0
BeginsPiece ps d = (p : Piece) × Contains ps p × (p.first ≡ d)

-- the source of day d by pieces that follow one another: the winner that its piece has for its weekday
abbrev pub source_at : List Piece → ℕ → Option ℕ
source_at [] d = None
source_at (p ∷ ps) d = if nat_le d p.last then winner_of p d else source_at ps d
