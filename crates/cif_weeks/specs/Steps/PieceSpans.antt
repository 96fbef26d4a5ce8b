-- Steps to the runs of a calendar: the spans of its pieces. No public clause cites them.
use Rattle.std.specs.Prelude.{Contains, List, None, Option, Some, if◌then◌else◌, length, nat_le, slice_index_or, unwrap_or, ℕ, ◌+◌, ◌<◌}
use Rattle.std.specs.{List.Sorted.IsNonDecreasingBy, Prelude.◌≡◌, Prelude.◌≤◌}
use Rattle.cif_columns.specs.{Day.week_of, Day.weekday_of, declared.stp.Stp.TheVariants.P}
use Rattle.cif_calendar.specs.{Calendar.CalendarParts, Pieces.source_at, Source.body_at, Terms.Terms, declared.key_calendar.Piece.Piece}
use Rattle.cif_weeks.specs.{Steps.Spans.HasDay, declared.form.Run.Run, declared.span.Span.Span}

-- the source of day n, and none outside the window
abbrev pub source_in : CalendarParts → ℕ → Option ℕ
source_in c n = if nat_le c.first n then (if nat_le n c.last then source_at c.pieces n else None) else None

-- the body that runs on day n, and none outside the window
abbrev pub body_in : {B : Type 0} → List (Terms B) → CalendarParts → ℕ → Option B
body_in xs c n = body_at xs (source_in c n)

-- the piece has a date of the weekday
abbrev pub HasDate : Piece → ℕ → Type 0
HasDate p weekday = (n : ℕ) × (p.first ≤ n) × (n ≤ p.last) × (weekday_of n ≡ weekday)

-- the entry at position i wins on the piece's dates of the weekday, of which there is one
abbrev pub IsWinnerOn : Piece → ℕ → ℕ → Type 0
IsWinnerOn p weekday i = HasDate p weekday × (slice_index_or p.winners weekday None ≡ Some i)

-- on the piece's dates of the weekday the body of the entry at `source` runs
abbrev pub HasBodyOn : {B : Type 0} → List (Terms B) → Piece → ℕ → ℕ → Type 0
HasBodyOn xs p source weekday = (i : ℕ) × IsWinnerOn p weekday i × (body_at xs (Some source) ≡ body_at xs (Some i))

-- a span of the calendar: the body at its source runs on its days
pub record IsPieceSpan {B : Type 0} (xs : List (Terms B)) (c : CalendarParts) (s : Span) : Type 0 where
  pub body : B
  pub has : body_at xs (Some s.source) ≡ Some body
  pub is_permanent : s.letter ≡ P
  pub runs : (n : ℕ) → HasDay s n → body_in xs c n ≡ Some body

-- the weeks of the spans meet, or those of one begin right after those of the other
pub record AreNear (s t : Span) : Type 0 where
  pub reaches : s.first_week ≤ t.last_week + 1
  pub reached : t.first_week ≤ s.last_week + 1

-- The spans are those of the calendar's known days. Spans with one body that are near each other have one source.
pub record AreSpansOn {B : Type 0} (xs : List (Terms B)) (c : CalendarParts) (known : ℕ → Type 0) (spans : List Span) : Type 0 where
  pub each : (s : Span) → Contains spans s → IsPieceSpan xs c s
  pub all : (n : ℕ) (b : B) → known n → body_in xs c n ≡ Some b →
      (s : Span) × Contains spans s × HasDay s n × (body_at xs (Some s.source) ≡ Some b)
  pub one_source : (s t : Span) → Contains spans s → Contains spans t → AreNear s t →
      body_at xs (Some s.source) ≡ body_at xs (Some t.source) → s.source ≡ t.source

-- the spans rise by their last weeks, and none begins or ends after these weeks
pub record AreInOrder (first_week last_week : ℕ) (spans : List Span) : Type 0 where
  pub rising : IsNonDecreasingBy (λ (s : Span). s.last_week) spans
  pub begun : (s : Span) → Contains spans s → s.first_week ≤ first_week
  pub ended : (s : Span) → Contains spans s → s.last_week ≤ last_week

-- The spans are those of the pieces that end before day `limit`, on which the next one begins.
pub record AreSpansBefore {B : Type 0} (xs : List (Terms B)) (c : CalendarParts) (limit : ℕ) (spans : List Span) : Type 0 where
  pub are : AreSpansOn xs c (λ n. n < limit) spans
  pub order : AreInOrder (week_of limit) (week_of limit) spans

-- the spans rise by source, and those of one source by their first weeks
pub record AreBySource (spans : List Span) : Type 0 where
  pub sources : IsNonDecreasingBy (λ (s : Span). s.source) spans
  pub weeks : (k : ℕ) (d : Span) → k + 1 < length spans →
      (slice_index_or spans k d).source ≡ (slice_index_or spans (k + 1) d).source →
      (slice_index_or spans k d).first_week ≤ (slice_index_or spans (k + 1) d).first_week

-- the run with the calendar's source of its first day
abbrev pub named : CalendarParts → Run → Run
named c run = record { first = run.first; last = run.last; days = run.days; source = unwrap_or (source_at c.pieces run.first) run.source }
