-- What a prepared extract says of each day of its window.
use Rattle.std.specs.Prelude.{◌≡◌, ◌≤◌, ℕ, ◌+◌, Bool, List, IsTrue}
use Rattle.cif_calendar.specs.{Applies.Applies, Clash.IsClear, Entries.association_entries, Entries.schedule_entries, Keys.of_key}
use Rattle.cif_calendar.specs.{Terms.Terms}
use Rattle.cif_extract.specs.ExtractParts.{ExtractParts}
use Rattle.cif_records.specs.declared.association.AssocKey.{AssocKey}
use Rattle.cif_feed.specs.{Prepared.SayTheSame, declared.holidays.Holidays.Holidays}
use Rattle.cif_feed.specs.Published.{CountOn, IsClashDay, PublishedTerms}
use Rattle.cif_feed.specs.PublishedParts.{PublishedParts, published_associations, published_schedules}

-- What the prepared records say of key k on day d of the window from `first` to the day before `to`.
pub record SayOfDay {K B : Type 0} (h : Holidays) (drops : Bool) (published : List (K × PublishedTerms B)) (prepared : List (K × Terms B))
    (first to : ℕ) (k : K) (d : ℕ) : Type 0 where
  -- The same bodies win as by the published records, with their holidays. Where clashes are dropped, this is so unless d is a clash day.
  pub same : ¬ (IsTrue drops × IsClashDay h published first to k d) → SayTheSame (of_key prepared k) (CountOn h published k d) d
  -- Where they are, no record applies on a clash day, and every day is clear.
  pub none : IsTrue drops → IsClashDay h published first to k d → (r : Terms B) → of_key prepared k r → ¬ Applies r d
  pub clear : IsTrue drops → IsClear (of_key prepared k) d

-- What a prepared extract says of each key on each day of its window.
pub record SayAsPublished (h : Holidays) (drops : Bool) (p : PublishedParts) (x : ExtractParts) : Type 0 where
  pub header : x.header ≡ p.header
  pub associations : (k : AssocKey) (d : ℕ) → p.header.first ≤ d → d ≤ p.header.last
      → SayOfDay h drops (published_associations p.associations) (association_entries x.associations) p.header.first (p.header.last + 1) k d
  pub trains : (k : List ℕ) (d : ℕ) → p.header.first ≤ d → d ≤ p.header.last
      → SayOfDay h drops (published_schedules p.schedules) (schedule_entries x.schedules) p.header.first (p.header.last + 1) k d
