-- What a published feed says on each date.
use Rattle.std.specs.Prelude.{◌≡◌, ◌⊎◌, ℕ, Bool, true, false, List, Option, None}
use Rattle.cif_calendar.specs.{Clash.IsClash, Runs.Runs}
use Rattle.cif_extract.specs.Body.{BodyLines}
use Rattle.cif_records.specs.declared.{association.AssocBody.AssocBody, association.AssocKey.AssocKey}
use Rattle.cif_feed.specs.{Published.CountOn, Published.PublishedTerms, WrittenPrepared.IsPreparedText}
use Rattle.cif_feed.specs.PublishedParts.{PublishedParts, published_associations, published_schedules}
use Rattle.cif_feed.specs.declared.{dropped.Dropped.Dropped, holidays.Holidays.Holidays}

-- A published feed: a published extract with the holidays of its codes, whose clashes stay or are dropped.
pub record PublishedFeed : Type 0 where
  pub extract : PublishedParts
  pub holidays : Holidays
  pub drops_clashes : Bool

-- the feed of which this text was prepared
abbrev pub feed_of : {h : Holidays} {drops : Bool} {max : ℕ} {bytes text : List ℕ} {dropped : Dropped} →
    IsPreparedText h drops max bytes text dropped → PublishedFeed
feed_of {h} {drops} prepared = record { extract = prepared.published; holidays = h; drops_clashes = drops }

-- What a feed says of key k on day d: what runs by those of its records for which the day is no holiday. If clashes are dropped, nothing
-- runs on a day on which two winners differ.
abbrev pub FeedRuns : {K B : Type 0} → Bool → Holidays → List (K × PublishedTerms B) → K → ℕ → Option B → Type 0
FeedRuns false h entries k d o = Runs (CountOn h entries k d) d o
FeedRuns true h entries k d o = (IsClash (CountOn h entries k d) d × (o ≡ None))
    ⊎ ((¬ IsClash (CountOn h entries k d) d) × Runs (CountOn h entries k d) d o)

-- the same of an association, and of a train
abbrev pub AssociationRuns : PublishedFeed → AssocKey → ℕ → Option AssocBody → Type 0
AssociationRuns p = FeedRuns p.drops_clashes p.holidays (published_associations p.extract.associations)

abbrev pub TrainRuns : PublishedFeed → List ℕ → ℕ → Option BodyLines → Type 0
TrainRuns p = FeedRuns p.drops_clashes p.holidays (published_schedules p.extract.schedules)
