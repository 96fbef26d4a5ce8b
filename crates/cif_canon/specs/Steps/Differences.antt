-- Extracts that are compared, and days on which two calendars have the same bodies. No public clause cites it.
use Rattle.std.specs.Prelude.{◌≡◌, ℕ, ◌≤◌, List, Option, Some, IsSome, ⊤}
use Rattle.cif_calendar.specs.{Pieces.winner_of, Source.body_at, Terms.Terms, declared.key_calendar.Piece.Piece}
use Rattle.cif_extract.specs.ExtractParts.{ExtractParts}
use Rattle.cif_canon.specs.{Accepted.IsClearExtract, Asked.header_window}
use Rattle.cif_canon.specs.declared.{comparison.Comparison.Comparison, comparison.Comparison.TheVariants.Same}

-- it holds of the days from `first` to `last`
abbrev pub HoldsFrom : (ℕ → Type 0) → ℕ → ℕ → Type 0
HoldsFrom holds first last = (d : ℕ) → first ≤ d → d ≤ last → holds d

-- a source is none, or the position of an entry with a body
abbrev pub IsBodied : {B : Type 0} → List (Terms B) → Option ℕ → Type 0
IsBodied xs source = (i : ℕ) → source ≡ Some i → IsSome (body_at xs (Some i))

-- the same body on day d by two pieces, or none by both
abbrev pub AreAlikeBy : {B : Type 0} → List (Terms B) → Piece → List (Terms B) → Piece → ℕ → Type 0
AreAlikeBy xs p ys q d = body_at xs (winner_of p d) ≡ body_at ys (winner_of q d)

-- on each day from `first` to `last` the piece's winner is one with a body
pub record HasBodies {B : Type 0} (xs : List (Terms B)) (p : Piece) (first last : ℕ) : Type 0 where
  pub bodied : (d : ℕ) → first ≤ d → d ≤ last → IsBodied xs (winner_of p d)

-- two extracts that can be compared: they have one window, and neither has a clash in it
pub record AreComparable (x y : ExtractParts) : Type 0 where
  pub window : header_window x.header ≡ header_window y.header
  pub left : IsClearExtract x
  pub right : IsClearExtract y

-- where two extracts compare as the same, they are clear
abbrev pub AreClearIfSame : ExtractParts → ExtractParts → Comparison → Type 0
AreClearIfSame x y Same = IsClearExtract x × IsClearExtract y
AreClearIfSame x y _ = ⊤
