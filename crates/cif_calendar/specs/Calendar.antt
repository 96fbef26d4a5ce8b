-- What a calendar says, and why there is none.
use Rattle.std.specs.Prelude.{◌≡◌, ℕ, ◌+◌, ◌*◌, ◌≤◌, ◌⊎◌, List, length, All, Option, ◌↔◌, Result, Err, IfErr, IfOk}
use Rattle.cif_calendar.specs.{Clash.IsClearFrom, Clash.IsFirstClash, Runs.Runs, Terms.Records, Terms.Terms}
use Rattle.cif_calendar.specs.Source.{IsChosen, IsSource, body_at}
use Rattle.cif_calendar.specs.Pieces.{IsPiece, IsBoundary, BeginsPiece, Tiles, source_at}
use Rattle.cif_calendar.specs.declared.{key_calendar.CalendarFault.CalendarFault, key_calendar.CalendarFault.TheVariants.Ambiguous}
use Rattle.cif_calendar.specs.declared.{key_calendar.CalendarFault.TheVariants.Memory, key_calendar.Piece.Piece}

-- a calendar's window, from its first to its last day, and its pieces
pub record CalendarParts : Type 0 where
  pub first : ℕ
  pub last : ℕ
  pub pieces : List Piece

-- what runs on day d by the calendar: the body of the entry at the day's source
abbrev pub body_on : {B : Type 0} → List (Terms B) → CalendarParts → ℕ → Option B
body_on xs c d = body_at xs (source_at c.pieces d)

-- What a calendar of the members says of the days from `first` to `last`.
pub record IsCalendar {B : Type 0} (xs : List (Terms B)) (members : List ℕ) (first last : ℕ) (c : CalendarParts) : Type 0 where
  pub first_is : c.first ≡ first
  pub last_is : c.last ≡ last
  -- each day is clear, has its source, and what runs on it is that source's body
  pub clear : IsClearFrom (IsChosen xs members) first last
  pub sources : (d : ℕ) → first ≤ d → d ≤ last → IsSource xs members d (source_at c.pieces d)
  pub runs : (d : ℕ) → first ≤ d → d ≤ last → Runs (IsChosen xs members) d (body_on xs c d)
  -- the pieces cover the window, each is one by itself, and they begin on the boundaries and nowhere else: so there are few
  pub tiles : Tiles c.pieces first (last + 1)
  pub pieces : All (IsPiece xs members) c.pieces
  pub boundaries : (d : ℕ) → BeginsPiece c.pieces d ↔ IsBoundary (IsChosen xs members) first last d
  pub few : length c.pieces ≤ 2 * length members + 1

-- an ambiguous day is the first with a clash; of the memory nothing is said
abbrev pub IsFault : {B : Type 0} → Records B → ℕ → ℕ → CalendarFault → Type 0
IsFault records first last (Ambiguous d) = IsFirstClash records first last d
IsFault records first last Memory = Unit {0}

-- What is answered where the calendar of the members is asked for. Where the window has a clash, it is that or Memory.
pub record IsAnswer {B : Type 0} (xs : List (Terms B)) (members : List ℕ) (first last : ℕ)
    (result : Result CalendarParts CalendarFault) : Type 0 where
  pub calendar : IfOk result (IsCalendar xs members first last)
  pub fault : IfErr result (IsFault (IsChosen xs members) first last)
  pub clash : (d : ℕ) → IsFirstClash (IsChosen xs members) first last d → (result ≡ Err (Ambiguous d)) ⊎ (result ≡ Err Memory)
