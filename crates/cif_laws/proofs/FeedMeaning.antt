-- What is prepared of a feed says what the feed says.
use Rattle.std.proofs.Common.{Bool, List, None, Option, Some, arith, false, inl, inr, refl, sym, true, ℕ, ⊎_elim, ◌+◌, ◌↔◌, ◌≡◌, ◌≤◌}
use Rattle.cif_calendar.proofs.Names.{false≢true}
use Rattle.cif_calendar.specs.{Applies.Applies, Clash.IsClash, Clash.IsClear, Entries.association_entries, Entries.schedule_entries}
use Rattle.cif_calendar.specs.{Keys.of_key, Runs.Runs, Terms.Terms}
use Rattle.cif_extract.specs.ExtractParts.{ExtractParts}
use Rattle.cif_feed.proofs.PreparedRuns.{in-list, says-published}
use Rattle.cif_feed.specs.{Dropped.AreClashDays, Dropped.AreDropped, PreparedDays.SayOfDay, WrittenPrepared.AreDroppedIf}
use Rattle.cif_feed.specs.{WrittenPrepared.IsPreparedAs, declared.dropped.Dropped.Dropped, declared.holidays.Holidays.Holidays}
use Rattle.cif_feed.specs.Published.{CountOn, IsClashDay, PublishedTerms}
use Rattle.cif_feed.specs.PublishedParts.{PublishedParts, published_associations, published_schedules}
use Rattle.cif_records.specs.declared.association.AssocKey.{AssocKey}
use Rattle.cif_laws.specs.PublishedFeed.{FeedRuns}

-- What is prepared says of key k on day d what the feed says, and is clear where that is, or where clashes are dropped.
pub record SaysAsFeed {K B : Type 0} (h : Holidays) (drops : Bool) (entries : List (K × PublishedTerms B)) (prepared : List (K × Terms B))
    (k : K) (d : ℕ) : Type 0 where
  pub runs : (o : Option B) → Runs (of_key prepared k) d o ↔ FeedRuns drops h entries k d o
  pub clear : IsClear (of_key prepared k) d ↔ (drops ≡ false → IsClear (CountOn h entries k d) d)

module _ {K B : Type 0} (h : Holidays) (entries : List (K × PublishedTerms B)) (prepared : List (K × Terms B)) (first last : ℕ) (k : K)
    (d : ℕ) (from : first ≤ d) (upto : d ≤ last) where
  -- where no record applies, nothing runs, and nothing else does
  nothing : ((r : Terms B) → of_key prepared k r → ¬ Applies r d) → (o : Option B) → Runs (of_key prepared k) d o ↔ (o ≡ None)
  nothing none None = (λ runs. refl, λ is. record { cancelled = λ r wins. absurd (none r wins.listed wins.applies) })
  nothing none (Some b) = (λ runs. absurd (none runs.winner runs.wins.listed runs.wins.applies), λ is. cc)

  module _ (says : SayOfDay h true entries prepared first (last + 1) k d) (days : List ℕ)
      (all : AreClashDays h entries first (last + 1) k days) (o : Option B) where
    at-clash : IsClashDay h entries first (last + 1) k d → Runs (of_key prepared k) d o ↔ FeedRuns true h entries k d o
    at-clash clash = (
      λ runs. inl (clash.clash, (nothing (says.none refl clash) o).0 runs),
      λ feed. ⊎_elim (λ none. (nothing (says.none refl clash) o).1 none.1) (λ clear. absurd (clear.0 clash.clash)) feed,
    )

    at-clear : ¬ IsClash (CountOn h entries k d) d → Runs (of_key prepared k) d o ↔ FeedRuns true h entries k d o
    at-clear clear =
        let same = says.same (λ both. clear both.1.clash) in (
          λ runs. inr (clear, (same.runs o).0 runs),
          λ feed. ⊎_elim (λ none. absurd (clear none.0)) (λ runs. (same.runs o).1 runs.1) feed,
        )

    runs-cut : Runs (of_key prepared k) d o ↔ FeedRuns true h entries k d o
    runs-cut = ⊎_elim
        (λ has. at-clash ((all.are d).0 has))
        (λ lacks. at-clear (λ clash. lacks ((all.are d).1 (record { from = from; before = omega arith; clash = clash }))))
        (in-list d days)

  -- Of the clash days nothing has to be known where clashes stay.
  says-as-feed : (drops : Bool) → SayOfDay h drops entries prepared first (last + 1) k d
      → (drops ≡ true → (days : List ℕ) × AreClashDays h entries first (last + 1) k days) → SaysAsFeed h drops entries prepared k d
  says-as-feed false says known =
      let same = says.same (λ both. false≢true both.0) in
      record { runs = same.runs; clear = (λ c no. same.clear.0 c, λ c. same.clear.1 (c refl)) }
  says-as-feed true says known =
      let (days, all) = known refl in
      record { runs = runs-cut says days all; clear = (λ c no. absurd (false≢true (sym no)), λ c. says.clear refl) }

-- what is reported of the keys, where clashes are dropped
pub reported : (drops : Bool) (h : Holidays) (p : PublishedParts) (dropped : Dropped) → AreDroppedIf drops h p dropped → drops ≡ true
    → AreDropped h p dropped
reported true h p dropped are same = are
reported false h p dropped are same = absurd (false≢true same)

module _ (h : Holidays) (p : PublishedParts) (x : ExtractParts) (dropped : Dropped) (d : ℕ) (from : p.header.first ≤ d)
    (upto : d ≤ p.header.last) (drops : Bool) (is : IsPreparedAs h drops p x dropped) where
  pub associations-say : (k : AssocKey)
      → SaysAsFeed h drops (published_associations p.associations) (association_entries x.associations) k d
  associations-say k =
      says-as-feed h (published_associations p.associations) (association_entries x.associations) p.header.first p.header.last k d from upto
      drops ((says-published h drops p x dropped is).associations k d from upto)
      (λ same. let t = reported drops h p dropped is.reported same in (t.association_days k, t.of_associations.are k))

  pub trains-say : (k : List ℕ) → SaysAsFeed h drops (published_schedules p.schedules) (schedule_entries x.schedules) k d
  trains-say k =
      says-as-feed h (published_schedules p.schedules) (schedule_entries x.schedules) p.header.first p.header.last k d from upto drops
      ((says-published h drops p x dropped is).trains k d from upto)
      (λ same. let t = reported drops h p dropped is.reported same in (t.train_days k, t.of_trains.are k))
