-- How two extracts differ, and the line that says so.
use Rattle.std.specs.Prelude.{◌≡◌, ◌≢◌, ◌↔◌, ◌⊎◌, ◌≤◌, ◌<◌, ℕ, List, Option, Contains, ◌++◌, codes}
use Rattle.std.specs.{Cmp.Lexicographic.slice_cmp, Ordering.nat_cmp, declared.cmp.Ordering.Ordering, declared.cmp.Ordering.TheVariants.Less}
use Rattle.cif_calendar.specs.{Entries.association_entries, Entries.schedule_entries, Keys.of_key, Meaning.EntriesSayTheSame, Runs.Runs}
use Rattle.cif_calendar.specs.{Terms.Terms}
use Rattle.cif_extract.specs.{Clash.bracketed, Clash.clash_text, ExtractParts.ExtractParts, declared.fault.Fault.Fault}
use Rattle.cif_extract.specs.declared.fault.Clash.TheVariants as clash
use Rattle.cif_extract.specs.declared.fault.Fault.TheVariants.{Ambiguous, Memory, WindowsDiffer}
use Rattle.cif_records.specs.{AssocKey.key_cmp, declared.tiploc.Tiploc.Tiploc}
use Rattle.cif_canon.specs.{Accepted.IsClearExtract, Asked.header_window, Fault.IsFirstClashIn, Meaning.Agree}
use Rattle.cif_canon.specs.declared.comparison.Comparison.{Comparison}
use Rattle.cif_canon.specs.declared.comparison.Comparison.TheVariants.{Same, Tiploc as DifferentTiploc, Association, Train}

-- the same runs for key k on day d by both lists
abbrev pub RunsAlike : {K B : Type 0} → List (K × Terms B) → List (K × Terms B) → K → ℕ → Type 0
RunsAlike {K} {B} xs ys k d = (o : Option B) → Runs (of_key xs k) d o ↔ Runs (of_key ys k) d o

-- by one list this runs for key k on day d, and by the other that, which is something else
pub record RunsDiffer {K B : Type 0} (xs ys : List (K × Terms B)) (k : K) (d : ℕ) : Type 0 where
  pub one : Option B
  pub other : Option B
  pub one_runs : Runs (of_key xs k) d one
  pub other_runs : Runs (of_key ys k) d other
  pub differ : one ≢ other

-- The first difference from `first` to `last` is that of key k on day d: the same runs for k on the days before, and for each key
-- before k on all these days. `cmp` is the order of the keys.
pub record IsFirstDifference {K B : Type 0} (cmp : K → K → Ordering) (xs ys : List (K × Terms B)) (first last : ℕ) (k : K) (d : ℕ)
    : Type 0 where
  pub from : first ≤ d
  pub upto : d ≤ last
  pub differ : RunsDiffer xs ys k d
  pub alike_before : (e : ℕ) → first ≤ e → e < d → RunsAlike xs ys k e
  pub keys_before : (j : K) (e : ℕ) → cmp j k ≡ Less → first ≤ e → e ≤ last → RunsAlike xs ys j e

-- The location is the least, by its columns, that only one of the two lists has.
pub record IsFirstTiploc (xs ys : List Tiploc) (t : Tiploc) : Type 0 where
  pub in_one : (Contains xs t × ¬ Contains ys t) ⊎ (Contains ys t × ¬ Contains xs t)
  pub before : (s : Tiploc) → slice_cmp nat_cmp s.columns t.columns ≡ Less → Contains xs s ↔ Contains ys s

-- How the extracts compare in the window of x: they agree in it, or this is the first difference: of locations, or else of
-- associations, or else of trains.
abbrev pub IsComparison : ExtractParts → ExtractParts → Comparison → Type 0
IsComparison x y Same = Agree (header_window x.header) x y
IsComparison x y (DifferentTiploc t) = IsFirstTiploc x.tiplocs y.tiplocs t
IsComparison x y (Association key day) =
    ((t : Tiploc) → Contains x.tiplocs t ↔ Contains y.tiplocs t)
    × IsFirstDifference key_cmp (association_entries x.associations) (association_entries y.associations) x.header.first x.header.last
    key day
IsComparison x y (Train uid day) =
    ((t : Tiploc) → Contains x.tiplocs t ↔ Contains y.tiplocs t)
    × EntriesSayTheSame (association_entries x.associations) (association_entries y.associations) x.header.first x.header.last
    × IsFirstDifference (slice_cmp nat_cmp) (schedule_entries x.schedules) (schedule_entries y.schedules) x.header.first x.header.last
    uid day

-- the extracts have one window, each is clear, and this is how they compare
pub record AreCompared (x y : ExtractParts) (c : Comparison) : Type 0 where
  pub window : header_window x.header ≡ header_window y.header
  pub left : IsClearExtract x
  pub right : IsClearExtract y
  pub compared : IsComparison x y c

-- why they aren't compared: their windows differ, or else the first clash of x, or else that of y
abbrev pub IsCompareFault : ExtractParts → ExtractParts → Fault → Type 0
IsCompareFault x y WindowsDiffer = header_window x.header ≢ header_window y.header
IsCompareFault x y (Ambiguous clash) =
    (header_window x.header ≡ header_window y.header)
    × (IsFirstClashIn x clash ⊎ (IsClearExtract x × IsFirstClashIn y clash))
IsCompareFault x y Memory = header_window x.header ≡ header_window y.header
IsCompareFault x y _ = ⊥

-- the line that says how two extracts compare, with its line feed; a key and a date stand there as those of a clash
unfoldable pub comparison_line : Comparison → List ℕ
comparison_line Same = codes "same\n"
comparison_line (DifferentTiploc t) = codes "differs: tiploc " ++ bracketed t.columns ++ codes "\n"
comparison_line (Association key day) = codes "differs: " ++ clash_text (clash.Association key day) ++ codes "\n"
comparison_line (Train uid day) = codes "differs: " ++ clash_text (clash.Train uid day) ++ codes "\n"
