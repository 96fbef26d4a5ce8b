-- What is reported of the keys that clash.
use Rattle.std.specs.Prelude.{AllPairs, Contains, List, codes, decimal, if◌then◌else◌, length, map, slice_index_or, ℕ, ◌++◌, ◌+◌, ◌-◌, ◌<◌}
use Rattle.std.specs.Prelude.{◌==◌, ◌↔◌, ◌≡◌, ◌≤◌}
use Rattle.std.specs.{Cmp.Lexicographic.slice_cmp, Ordering.nat_cmp, declared.cmp.Ordering.Ordering, declared.cmp.Ordering.TheVariants.Less}
use Rattle.cif_calendar.specs.Clash.{IsClear}
use Rattle.cif_extract.specs.{Clash.clash_text, declared.fault.Clash.Clash}
use Rattle.cif_extract.specs.declared.fault.Clash.TheVariants as clash
use Rattle.cif_records.specs.{AssocKey.key_cmp, declared.association.AssocKey.AssocKey}
use Rattle.cif_feed.specs.{CutCount.AppliesOnAny, CutCount.IsCountOf, Published.CountOn, Published.IsClashDay, Published.PublishedTerms}
use Rattle.cif_feed.specs.{PublishedParts.PublishedParts, PublishedParts.published_associations, PublishedParts.published_schedules}
use Rattle.cif_feed.specs.{declared.dropped.Dropped.Dropped, declared.dropped.DroppedKey.DroppedKey, declared.holidays.Holidays.Holidays}

-- These are the clash days of key k, from `first` to the one before `to`, rising. On the other days the key is clear.
pub record AreClashDays {K B : Type 0} (h : Holidays) (entries : List (K × PublishedTerms B)) (first to : ℕ) (k : K) (days : List ℕ)
    : Type 0 where
  pub rising : AllPairs ◌<◌ days
  pub are : (d : ℕ) → Contains days d ↔ IsClashDay h entries first to k d
  pub clear : (d : ℕ) → first ≤ d → d < to → ¬ Contains days d → IsClear (CountOn h entries k d) d

-- Each key has these days, and the keys that have one are these, rising. `cmp` is the order of the keys.
pub record AreKeysWithDays {K : Type 0} (cmp : K → K → Ordering) (Are : K → List ℕ → Type 0) (keys : List K) (days : K → List ℕ)
    : Type 0 where
  pub rising : AllPairs (λ (j : K) (k : K). cmp j k ≡ Less) keys
  pub each : (k : K) → Contains keys k ↔ (0 < length (days k))
  pub are : (k : K) → Are k (days k)

-- what is reported of a key and its days: the first of them, and how many more there are
abbrev pub reported_as : {K : Type 0} → (K → ℕ → Clash) → (K → List ℕ) → K → DroppedKey
reported_as name days k = record { clash = name k (slice_index_or (days k) 0 0); more = length (days k) - 1 }

-- so many of the published records apply on a clash day of their key
abbrev pub IsCountOfClashing : {K B : Type 0} → Holidays → List (K × PublishedTerms B) → ℕ → ℕ → ℕ → Type 0
IsCountOfClashing {K} {B} h entries first last n =
    IsCountOf (λ (e : K × PublishedTerms B). AppliesOnAny (IsClashDay h entries first (last + 1) e.0) h last e.1) entries n

-- What is reported of a published extract, with these holidays: each key that has a clash day, associations before trains, with its first
-- clash day and how many more it has; and how many records apply on a clash day of their key.
pub record AreDropped (h : Holidays) (p : PublishedParts) (dropped : Dropped) : Type 0 where
  pub associations : List AssocKey
  pub association_days : AssocKey → List ℕ
  pub of_associations : AreKeysWithDays key_cmp
      (AreClashDays h (published_associations p.associations) p.header.first (p.header.last + 1)) associations association_days
  pub trains : List (List ℕ)
  pub train_days : List ℕ → List ℕ
  pub of_trains : AreKeysWithDays (slice_cmp nat_cmp)
      (AreClashDays h (published_schedules p.schedules) p.header.first (p.header.last + 1)) trains train_days
  pub keys : dropped.keys.items
      ≡ map (reported_as clash.Association association_days) associations ++ map (reported_as clash.Train train_days) trains
  pub clashing_associations : ℕ
  pub are_associations : IsCountOfClashing h (published_associations p.associations) p.header.first p.header.last clashing_associations
  pub clashing_trains : ℕ
  pub are_trains : IsCountOfClashing h (published_schedules p.schedules) p.header.first p.header.last clashing_trains
  pub records : dropped.records ≡ clashing_associations + clashing_trains

-- how many more dates there are
abbrev pub more_text : ℕ → List ℕ
more_text n = if n == 0 then codes "" else (if n == 1 then codes " and 1 more date" else codes " and " ++ decimal n ++ codes " more dates")

-- the text of a key that clashes: that of its first clash, and how many more dates there are
unfoldable pub dropped_text : DroppedKey → List ℕ
dropped_text key = clash_text key.clash ++ more_text key.more
