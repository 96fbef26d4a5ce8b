-- How two feeds compare, and in what they differ.
use Rattle.std.specs.Prelude.{◌≡◌, ◌≢◌, ◌↔◌, ◌≤◌, ◌<◌, ℕ, List, Option, Some, Contains, AllPairs}
use Rattle.std.specs.{Cmp.Lexicographic.slice_cmp, Ordering.nat_cmp, declared.cmp.Ordering.Ordering, declared.cmp.Ordering.TheVariants.Less}
use Rattle.cif_calendar.specs.Keys.{of_key}
use Rattle.cif_canon.specs.{Comparison.IsFirstTiploc, declared.comparison.Comparison.Comparison, declared.listed_differences.Side.Side}
use Rattle.cif_canon.specs.{declared.listed_differences.Side.TheVariants.Left, declared.listed_differences.Side.TheVariants.Right}
use Rattle.cif_canon.specs.{declared.listed_differences.Sided.Sided}
use Rattle.cif_canon.specs.Differences.{AreDifferentTiplocs, ComesBefore, DifferencesParts, of_side}
use Rattle.cif_canon.specs.declared.comparison.Comparison.TheVariants.{Same, Tiploc as DifferentTiploc, Association, Train}
use Rattle.cif_records.specs.{AssocKey.key_cmp, declared.tiploc.Tiploc.Tiploc}
use Rattle.cif_weeks.specs.{Canonical.AreCanonical, Permanent.Permanent, WhatRuns.HasBody, Window.IsWithin, Window.Window}
use Rattle.cif_weeks.specs.declared.form.Form.TheVariants.{Two}
use Rattle.cif_laws.specs.Feeds.{SayTheSame, FeedsAgree}
use Rattle.cif_laws.specs.PublishedFeed.{AssociationRuns, PublishedFeed, TrainRuns}

-- for key k on day d the one says this, and the other that, which is something else
pub record SayOther {K B : Type 0} (Says OtherSays : K → ℕ → Option B → Type 0) (k : K) (d : ℕ) : Type 0 where
  pub one : Option B
  pub other : Option B
  pub one_says : Says k d one
  pub other_says : OtherSays k d other
  pub differ : one ≢ other

-- The first day of the window on which two differ is that of key k on day d: they say the same of k on the days before, and of each key
-- before k on all days. `cmp` is the order of the keys.
pub record DifferFirst {K B : Type 0} (cmp : K → K → Ordering) (Says OtherSays : K → ℕ → Option B → Type 0) (window : Window) (k : K)
    (d : ℕ) : Type 0 where
  pub within : IsWithin window d
  pub differ : SayOther Says OtherSays k d
  pub alike_before : (e : ℕ) (o : Option B) → window.first ≤ e → e < d → Says k e o ↔ OtherSays k e o
  pub keys_before : (j : K) (e : ℕ) (o : Option B) → cmp j k ≡ Less → IsWithin window e → Says j e o ↔ OtherSays j e o

-- How two feeds compare in a window: they agree, or this is the first difference: of locations, or else of associations, or else of
-- trains.
abbrev pub IsFeedComparison : Window → PublishedFeed → PublishedFeed → Comparison → Type 0
IsFeedComparison window p q Same = FeedsAgree window p q
IsFeedComparison window p q (DifferentTiploc t) = IsFirstTiploc p.extract.tiplocs q.extract.tiplocs t
IsFeedComparison window p q (Association key day) =
    ((t : Tiploc) → Contains p.extract.tiplocs t ↔ Contains q.extract.tiplocs t)
    × DifferFirst key_cmp (AssociationRuns p) (AssociationRuns q) window key day
IsFeedComparison window p q (Train uid day) =
    ((t : Tiploc) → Contains p.extract.tiplocs t ↔ Contains q.extract.tiplocs t)
    × SayTheSame window (AssociationRuns p) (AssociationRuns q)
    × DifferFirst (slice_cmp nat_cmp) (TrainRuns p) (TrainRuns q) window uid day

-- The records are the canonical records, in form 2, of what only the one says: on each day of the window one with body b applies exactly
-- where the one says that b runs, and the other doesn't.
pub record AreOnlyOf {K B : Type 0} (cmp : K → K → Ordering) (window : Window) (Says OtherSays : K → ℕ → Option B → Type 0)
    (records : List (K × Permanent B)) : Type 0 where
  pub canonical : AreCanonical cmp Two window records
  pub exact : (k : K) (d : ℕ) (b : B) → IsWithin window d
      → HasBody (of_key records k) d b ↔ (Says k d (Some b) × ¬ OtherSays k d (Some b))

-- what the one of a side says, where the first is the left one
abbrev pub SaysAt : {K B : Type 0} → (K → ℕ → Option B → Type 0) → (K → ℕ → Option B → Type 0) → Side → K → ℕ → Option B → Type 0
SaysAt LeftSays RightSays Left = LeftSays
SaysAt LeftSays RightSays Right = RightSays

-- the differences: of each side the records of what it alone says, in order
pub record AreDifferencesOf {K B : Type 0} (cmp : K → K → Ordering) (window : Window) (Says OtherSays : K → ℕ → Option B → Type 0)
    (found : List (Sided (K × Permanent B))) : Type 0 where
  pub only : (side : Side) → AreOnlyOf cmp window (SaysAt Says OtherSays side) (SaysAt OtherSays Says side) (of_side side found)
  pub in_order : AllPairs (ComesBefore cmp) found

-- the differences of two feeds in a window: of locations, of associations, of schedules
pub record AreFeedDifferences (window : Window) (p q : PublishedFeed) (d : DifferencesParts) : Type 0 where
  pub tiplocs : AreDifferentTiplocs p.extract.tiplocs q.extract.tiplocs d.tiplocs
  pub associations : AreDifferencesOf key_cmp window (AssociationRuns p) (AssociationRuns q) d.associations
  pub schedules : AreDifferencesOf (slice_cmp nat_cmp) window (TrainRuns p) (TrainRuns q) d.schedules
