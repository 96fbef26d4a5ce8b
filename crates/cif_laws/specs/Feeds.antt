-- When two feeds say the same, when an extract says what a feed says, and which feeds are accepted once they are prepared.
use Rattle.std.specs.Prelude.{◌≡◌, ◌↔◌, ◌≤◌, ℕ, List, Option, Contains, false, length}
use Rattle.cif_calendar.specs.{Clash.IsClear, Entries.association_entries, Entries.schedule_entries, Keys.of_key, Runs.Runs}
use Rattle.cif_canon.specs.{Asked.AskedDatesAreWithin, Asked.window_asked, declared.asked.Asked.Asked}
use Rattle.cif_columns.specs.Contents.{contents_of}
use Rattle.cif_extract.specs.{Body.BodyLines, ExtractParts.ExtractParts}
use Rattle.cif_feed.specs.{Published.CountOn, Published.PublishedTerms, PublishedParts.published_associations}
use Rattle.cif_feed.specs.{PublishedParts.published_schedules, declared.holidays.Holidays.Holidays}
use Rattle.cif_records.specs.{HeaderColumns.with_window, declared.association.AssocBody.AssocBody, declared.association.AssocKey.AssocKey}
use Rattle.cif_records.specs.{declared.header.Header.Header, declared.tiploc.Tiploc.Tiploc}
use Rattle.cif_weeks.specs.Window.{IsWithin, Window}
use Rattle.cif_laws.specs.PublishedFeed.{AssociationRuns, PublishedFeed, TrainRuns}

-- on each day of the window and for each key, the one says what the other does
abbrev pub SayTheSame : {K B : Type 0} → Window → (K → ℕ → Option B → Type 0) → (K → ℕ → Option B → Type 0) → Type 0
SayTheSame {K} {B} window Says OtherSays = (k : K) (d : ℕ) (o : Option B) → IsWithin window d → Says k d o ↔ OtherSays k d o

-- Two feeds agree in a window: they have the same TI records, whose repeats and order don't count, and on each day of the window they say
-- the same of each association and of each train.
pub record FeedsAgree (window : Window) (p q : PublishedFeed) : Type 0 where
  pub tiplocs : (t : Tiploc) → Contains p.extract.tiplocs t ↔ Contains q.extract.tiplocs t
  pub associations : SayTheSame window (AssociationRuns p) (AssociationRuns q)
  pub trains : SayTheSame window (TrainRuns p) (TrainRuns q)

-- columns 3 to 60 of a header, with the window that is asked for
abbrev pub columns_asked : Asked → Header → List ℕ
columns_asked asked header = with_window (window_asked asked header).first (window_asked asked header).last header.columns

-- Two feeds say the same of what is asked of each: their headers are equal with the window that is asked for, and they agree in it.
pub record FeedsSayTheSame (asked : Asked) (p : PublishedFeed) (other_asked : Asked) (q : PublishedFeed) : Type 0 where
  pub header : columns_asked asked p.extract.header ≡ columns_asked other_asked q.extract.header
  pub agree : FeedsAgree (window_asked asked p.extract.header) p q

-- what runs for a key, by the associations and by the schedules of an extract of this profile
abbrev pub association_runs : ExtractParts → AssocKey → ℕ → Option AssocBody → Type 0
association_runs x k = Runs (of_key (association_entries x.associations) k)

abbrev pub train_runs : ExtractParts → List ℕ → ℕ → Option BodyLines → Type 0
train_runs x uid = Runs (of_key (schedule_entries x.schedules) uid)

-- An extract of this profile says in a window what a feed says.
pub record SaysWhatFeedSays (window : Window) (x : ExtractParts) (p : PublishedFeed) : Type 0 where
  pub tiplocs : (t : Tiploc) → Contains x.tiplocs t ↔ Contains p.extract.tiplocs t
  pub associations : SayTheSame window (association_runs x) (AssociationRuns p)
  pub trains : SayTheSame window (train_runs x) (TrainRuns p)

-- on no day of the window do two winners of a key have different bodies
abbrev pub AreClearIn : {K B : Type 0} → Window → Holidays → List (K × PublishedTerms B) → Type 0
AreClearIn {K} window h entries = (k : K) (d : ℕ) → IsWithin window d → IsClear (CountOn h entries k d) d

-- What is prepared of a feed has a canonical form for what is asked: it has at most so many lines, the dates that are asked for lie in its
-- window, the first not after the last, and, unless clashes are dropped, there is none in the window that is asked for.
pub record IsFeedAccepted (max : ℕ) (asked : Asked) (text : List ℕ) (p : PublishedFeed) : Type 0 where
  pub lines : length (contents_of text) ≤ max
  pub within : AskedDatesAreWithin asked p.extract.header
  pub in_order : (window_asked asked p.extract.header).first ≤ (window_asked asked p.extract.header).last
  pub associations : p.drops_clashes ≡ false
      → AreClearIn (window_asked asked p.extract.header) p.holidays (published_associations p.extract.associations)
  pub schedules : p.drops_clashes ≡ false
      → AreClearIn (window_asked asked p.extract.header) p.holidays (published_schedules p.extract.schedules)
