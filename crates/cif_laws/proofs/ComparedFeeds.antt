-- What is prepared of two feeds compares and differs as the feeds do.
use Rattle.std.proofs.Common.{Contains, List, Option, Ordering, Some, arith, subst, ℕ, ◌↔◌, ◌≡◌}
use Rattle.cif_calendar.specs.{Entries.association_entries, Entries.schedule_entries, Keys.of_key, Runs.Runs, Terms.Terms}
use Rattle.cif_canon.specs.{Asked.header_window, declared.comparison.Comparison.Comparison, declared.listed_differences.Side.Side}
use Rattle.cif_canon.specs.{declared.listed_differences.Side.TheVariants.Left, declared.listed_differences.Side.TheVariants.Right}
use Rattle.cif_canon.specs.{declared.listed_differences.Sided.Sided}
use Rattle.cif_canon.specs.Comparison.{IsComparison, IsFirstDifference, IsFirstTiploc}
use Rattle.cif_canon.specs.Differences.{AreDifferences, AreDifferentRecords, AreDifferentTiplocs, AreOnlyRecords, DifferencesParts, of_side}
use Rattle.cif_canon.specs.declared.comparison.Comparison.TheVariants.{Same, Tiploc as DifferentTiploc, Association, Train}
use Rattle.cif_extract.specs.ExtractParts.{ExtractParts}
use Rattle.cif_records.specs.{AssocKey.key_cmp, declared.tiploc.Tiploc.Tiploc}
use Rattle.cif_weeks.specs.{Permanent.Permanent, Window.IsWithin, Window.Window}
use Rattle.cif_laws.proofs.CanonicalFeeds.{feeds-agree}
use Rattle.cif_laws.specs.FeedDifferences.{AreDifferencesOf, AreFeedDifferences, AreOnlyOf, DifferFirst, IsFeedComparison, SaysAt}
use Rattle.cif_laws.specs.{Feeds.SayTheSame, Feeds.SaysWhatFeedSays, PublishedFeed.PublishedFeed}
use Rattle.std.specs.{Cmp.Lexicographic.slice_cmp, Ordering.nat_cmp}

-- ---- of one kind

module _ {K B : Type 0} (cmp : K → K → Ordering) (window : Window) where
  abbrev runs-of : List (K × Terms B) → K → ℕ → Option B → Type 0
  runs-of entries k = Runs (of_key entries k)

  module _ (xs ys : List (K × Terms B)) (Says OtherSays : K → ℕ → Option B → Type 0) (says : SayTheSame window (runs-of xs) Says)
      (other_says : SayTheSame window (runs-of ys) OtherSays) where
    -- what runs alike is said alike
    alike : (k : K) (d : ℕ) (o : Option B) → IsWithin window d → Runs (of_key xs k) d o ↔ Runs (of_key ys k) d o
        → Says k d o ↔ OtherSays k d o
    alike k d o within same = (
      λ s. (other_says k d o within).0 (same.0 ((says k d o within).1 s)),
      λ s. (says k d o within).0 (same.1 ((other_says k d o within).1 s)),
    )

    pub first-of : (k : K) (d : ℕ) → IsFirstDifference cmp xs ys window.first window.last k d → DifferFirst cmp Says OtherSays window k d
    first-of k d is =
        let within : IsWithin window d = record { from = is.from; upto = is.upto } in record {
          within = within;
          differ = record {
            one = is.differ.one;
            other = is.differ.other;
            one_says = (says k d is.differ.one within).0 is.differ.one_runs;
            other_says = (other_says k d is.differ.other within).0 is.differ.other_runs;
            differ = is.differ.differ;
          };
          alike_before = λ e o from before.
              let upto = is.upto in
              alike k e o (record { from = from; upto = omega (arith, before, upto) }) (is.alike_before e from before o);
          keys_before = λ j e o less at. alike j e o at (is.keys_before j e less at.from at.upto o);
        }

    only-of : (found : List (K × Permanent B)) → AreOnlyRecords cmp window xs ys found → AreOnlyOf cmp window Says OtherSays found
    only-of found are = record {
      canonical = are.canonical;
      exact = λ k d b within. (
        λ has. let only = (are.exact k d b within).0 has in (
          (says k d (Some b) within).0 only.runs,
          λ other. only.differs ((other_says k d (Some b) within).1 other),
        ),
        λ only. (are.exact k d b within).1 (record {
          runs = (says k d (Some b) within).1 only.0;
          differs = λ runs. only.1 ((other_says k d (Some b) within).0 runs);
        }),
      );
    }

  pub differences-of : (xs ys : List (K × Terms B)) (Says OtherSays : K → ℕ → Option B → Type 0) → SayTheSame window (runs-of xs) Says
      → SayTheSame window (runs-of ys) OtherSays → (found : List (Sided (K × Permanent B)))
      → AreDifferentRecords cmp window xs ys found → AreDifferencesOf cmp window Says OtherSays found
  differences-of xs ys Says OtherSays says other_says found are = record { only = at; in_order = are.in_order }
    where
      at : (side : Side) → AreOnlyOf cmp window (SaysAt Says OtherSays side) (SaysAt OtherSays Says side) (of_side side found)
      at Left = only-of xs ys Says OtherSays says other_says (of_side Left found) (are.only Left)
      at Right = only-of ys xs OtherSays Says other_says says (of_side Right found) (are.only Right)

-- ---- of two extracts

module _ (x y : ExtractParts) (p q : PublishedFeed) (s : SaysWhatFeedSays (header_window x.header) x p)
    (t : SaysWhatFeedSays (header_window x.header) y q) (tiplocs : x.tiplocs ≡ p.extract.tiplocs)
    (other_tiplocs : y.tiplocs ≡ q.extract.tiplocs) where
  abbrev window : Window
  window = header_window x.header

  same-tiplocs : ((l : Tiploc) → Contains x.tiplocs l ↔ Contains y.tiplocs l)
      → (l : Tiploc) → Contains p.extract.tiplocs l ↔ Contains q.extract.tiplocs l
  same-tiplocs same l = (
    λ has. (t.tiplocs l).0 ((same l).0 ((s.tiplocs l).1 has)),
    λ has. (s.tiplocs l).0 ((same l).1 ((t.tiplocs l).1 has)),
  )

  pub compared-feeds : (comparison : Comparison) → IsComparison x y comparison → IsFeedComparison window p q comparison
  compared-feeds Same is = feeds-agree window x y p q s t is
  compared-feeds (DifferentTiploc l) is =
      subst (λ ts. IsFirstTiploc ts q.extract.tiplocs l) tiplocs (subst (λ ts. IsFirstTiploc x.tiplocs ts l) other_tiplocs is)
  compared-feeds (Association key day) is = (
    same-tiplocs is.0,
    first-of key_cmp window (association_entries x.associations) (association_entries y.associations) _ _ s.associations t.associations key
        day is.1,
  )
  compared-feeds (Train uid day) is = (
    same-tiplocs is.0,
    λ k d o within. alike key_cmp window (association_entries x.associations) (association_entries y.associations) _ _ s.associations
        t.associations k d o within (is.1.same k d o within.from within.upto),
    first-of (slice_cmp nat_cmp) window (schedule_entries x.schedules) (schedule_entries y.schedules) _ _ s.trains t.trains uid day is.2,
  )

  pub different-feeds : (d : DifferencesParts) → AreDifferences x y d → AreFeedDifferences window p q d
  different-feeds d are = record {
    tiplocs = subst (λ ts. AreDifferentTiplocs ts q.extract.tiplocs d.tiplocs) tiplocs
        (subst (λ ts. AreDifferentTiplocs x.tiplocs ts d.tiplocs) other_tiplocs are.tiplocs);
    associations = differences-of key_cmp window (association_entries x.associations) (association_entries y.associations) _ _
        s.associations t.associations d.associations are.associations;
    schedules = differences-of (slice_cmp nat_cmp) window (schedule_entries x.schedules) (schedule_entries y.schedules) _ _ s.trains
        t.trains d.schedules are.schedules;
  }
