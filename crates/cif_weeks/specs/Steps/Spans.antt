-- Steps to the runs of few records: the days that each has in a window, and on which it leads. No public clause cites them.
use Rattle.std.specs.Prelude.{◌≡◌, ℕ, ◌≢◌, ◌⊎◌, ◌+◌, ◌<◌, ◌≤◌, List, Some, Contains, ◌↔◌}
use Rattle.cif_columns.specs.{Day.week_of, Day.weekday_of, DaysRun.RunsOn, Stp.letter}
use Rattle.cif_calendar.specs.{Applies.Applies, Source.IsChosen, Source.body_at, Terms.Terms}
use Rattle.cif_weeks.specs.{Steps.WeekMasks.IsMask, Window.IsWithin, Window.Window, declared.span.Span.Span, declared.span.Weeks.Weeks}

-- day n lies in the span's weeks, and its weekday is one of those in its week
pub record HasDay (s : Span) (n : ℕ) : Type 0 where
  pub from : s.first_week ≤ week_of n
  pub upto : week_of n ≤ s.last_week
  pub first : week_of n ≡ s.first_week → RunsOn s.first_days (weekday_of n)
  pub last : week_of n ≡ s.last_week → RunsOn s.last_days (weekday_of n)
  pub between : s.first_week < week_of n → week_of n < s.last_week → RunsOn s.days (weekday_of n)

-- the span has the days of the window on which record r applies, and r's letter
pub record IsSpanOf {B : Type 0} (window : Window) (r : Terms B) (s : Span) : Type 0 where
  pub same_letter : s.letter ≡ r.letter
  pub days : (n : ℕ) → HasDay s n ↔ (IsWithin window n × Applies r n)

-- the span is that of a member, whose body is that of the entry at the span's source, which is a member too
pub record IsMembersSpan {B : Type 0} (xs : List (Terms B)) (members : List ℕ) (window : Window) (s : Span) : Type 0 where
  pub terms : Terms B
  pub chosen : IsChosen xs members terms
  pub span : IsSpanOf window terms s
  pub body : terms.body ≡ body_at xs (Some s.source)
  pub source : Contains members s.source

-- The spans are those of the members that apply in the window. Spans with one body have one source.
pub record AreSpansOf {B : Type 0} (xs : List (Terms B)) (members : List ℕ) (window : Window) (spans : List Span) : Type 0 where
  pub each : (s : Span) → Contains spans s → IsMembersSpan xs members window s
  pub all : (r : Terms B) (n : ℕ) → IsChosen xs members r → IsWithin window n → Applies r n →
      (s : Span) × Contains spans s × IsSpanOf window r s × (r.body ≡ body_at xs (Some s.source))
  pub one_source : (s t : Span) → Contains spans s → Contains spans t → body_at xs (Some s.source) ≡ body_at xs (Some t.source) →
      s.source ≡ t.source

-- Of the spans that don't end before the week before this one: the source is that of one of them, or it is the position itself, and
-- none of them has a source with its body.
abbrev pub IsSourceAmong : {B : Type 0} → List (Terms B) → List Span → ℕ → ℕ → ℕ → Type 0
IsSourceAmong xs spans week position source =
    ((s : Span) × Contains spans s × (week ≤ s.last_week + 1) × (s.source ≡ source)) ⊎ ((source ≡ position) × ((s : Span) →
    Contains spans s → week ≤ s.last_week + 1 → body_at xs (Some s.source) ≢ body_at xs (Some position)))

-- the span has day n, and none that has it has precedence over it: their letters have the alphabet's order
pub record Leads (spans : List Span) (n : ℕ) (s : Span) : Type 0 where
  pub has : HasDay s n
  pub least : (t : Span) → Contains spans t → HasDay t n → letter s.letter ≤ letter t.letter

-- one of the spans, of those that are meant, has day n
pub record SomeOf (Is : Span → Type 0) (On : Span → ℕ → Type 0) (spans : List Span) (n : ℕ) : Type 0 where
  pub it : Span
  pub listed : Contains spans it
  pub is : Is it
  pub on : On it n

-- a span with this source leads on day n
abbrev pub Shows : List Span → ℕ → ℕ → Type 0
Shows spans source n = SomeOf (λ s. s.source ≡ source) (λ s n. Leads spans n s) spans n

-- two spans with different sources lead on day n
pub record IsDisputed (spans : List Span) (n : ℕ) : Type 0 where
  pub one : Span
  pub other : Span
  pub listed : Contains spans one
  pub other_listed : Contains spans other
  pub leads : Leads spans n one
  pub other_leads : Leads spans n other
  pub differ : one.source ≢ other.source

-- all spans that lead on day n have one source
pub record IsAgreed (spans : List Span) (n : ℕ) : Type 0 where
  pub agree : (s t : Span) → Contains spans s → Contains spans t → Leads spans n s → Leads spans n t → s.source ≡ t.source

-- In each of the weeks from `week` to their last, which isn't after `until`, their mask is that of these days.
pub record HaveOneMask (on : ℕ → Type 0) (week until : ℕ) (it : Weeks) : Type 0 where
  pub from : week ≤ it.last
  pub upto : it.last ≤ until
  pub masks : (v : ℕ) → week ≤ v → v ≤ it.last → IsMask on v it.days

-- where these days are in the weeks, the spans agree
pub record AgreeOn (spans : List Span) (on : ℕ → Type 0) (week : ℕ) (it : Weeks) : Type 0 where
  pub agreed : (n : ℕ) → week ≤ week_of n → week_of n ≤ it.last → on n → IsAgreed spans n
