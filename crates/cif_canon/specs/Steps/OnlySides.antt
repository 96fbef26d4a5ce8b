-- What only one of two calendars says, and the runs of both sides as they are found. No public clause cites it.
use Rattle.std.specs.Prelude.{◌≡◌, ◌≢◌, ◌↔◌, ◌⊎◌, ℕ, ◌<◌, ◌≤◌, List, [], ◌∷◌, ◌++◌, Option, None, Some, AllPairs, Contains, slice_index_or}
use Rattle.std.specs.{Cmp.Lexicographic.slice_cmp, List.AllZip, Ordering.nat_cmp}
use Rattle.std.specs.declared.{cmp.Ordering.Ordering, cmp.Ordering.TheVariants.Greater, cmp.Ordering.TheVariants.Less}
use Rattle.cif_calendar.specs.{Calendar.CalendarParts, Calendar.body_on, Keys.AreClear, Meaning.EntriesSayTheSame, Pieces.source_at}
use Rattle.cif_calendar.specs.{Pieces.winner_of, Source.body_at, Terms.Terms, declared.key_calendar.Piece.Piece}
use Rattle.cif_columns.specs.Day.{weekday_of}
use Rattle.cif_records.specs.declared.tiploc.Tiploc.{Tiploc}
use Rattle.cif_weeks.specs.{Permanent.Permanent, Window.Window, declared.form.Form.TheVariants.Two, declared.form.Run.Run}
use Rattle.cif_weeks.specs.Runs.{AreSources, IsRunOf as IsCalendarRun, window_of}
use Rattle.cif_canon.specs.{Comparison.IsFirstDifference, Steps.Records.AreRunsOf, Steps.Records.IsRunOf}
use Rattle.cif_canon.specs.Differences.{AreDifferentRecords, IsOnlyIn, TurnInto, at_side, of_side}
use Rattle.cif_canon.specs.declared.{differing.Extent.Extent, differing.Extent.TheVariants.AllKeys, listed_differences.Side.Side}
use Rattle.cif_canon.specs.declared.{listed_differences.Side.TheVariants.Left, listed_differences.Side.TheVariants.Right}
use Rattle.cif_canon.specs.declared.{listed_differences.Sided.Sided}

-- what is left of a source: none where the other one has the same body, and else itself
abbrev pub IsOnlySource : {B : Type 0} → List (Terms B) → List (Terms B) → Option ℕ → Option ℕ → Option ℕ → Type 0
IsOnlySource xs ys one other only =
    ((body_at xs one ≡ body_at ys other) × (only ≡ None)) ⊎ ((body_at xs one ≢ body_at ys other) × (only ≡ one))

-- the winners have what is left of the source of each day from `first` to `last`, by the pieces of both sides
pub record AreOnlyWinners {B : Type 0} (xs ys : List (Terms B)) (p q : Piece) (first last : ℕ) (winners : List (Option ℕ)) : Type 0 where
  pub each : (d : ℕ) → first ≤ d → d ≤ last →
      IsOnlySource xs ys (winner_of p d) (winner_of q d) (slice_index_or winners (weekday_of d) None)

-- the calendars of a key on both sides: they have one window, and each the sources of its entries
pub record AreOfOneKey {B : Type 0} (xs : List (Terms B)) (c : CalendarParts) (ys : List (Terms B)) (e : CalendarParts) : Type 0 where
  pub first : e.first ≡ c.first
  pub last : e.last ≡ c.last
  pub left : AreSources xs c
  pub right : AreSources ys e

-- the calendar has what is left of the source of each day of the window, by the calendars of both sides
pub record IsOnlyCalendar {B : Type 0} (xs : List (Terms B)) (c : CalendarParts) (ys : List (Terms B)) (e : CalendarParts)
    (only : CalendarParts) : Type 0 where
  pub first_is : only.first ≡ c.first
  pub last_is : only.last ≡ c.last
  pub sources : (d : ℕ) → c.first ≤ d → d ≤ c.last →
      IsOnlySource xs ys (source_at c.pieces d) (source_at e.pieces d) (source_at only.pieces d)

-- The runs are those of the canonical records, in form 2, of what only calendar c says: body b on a day on which by c it runs, and by
-- e it doesn't.
abbrev pub AreOnlyRuns : {B : Type 0} → List (Terms B) → CalendarParts → List (Terms B) → CalendarParts → List Run → Type 0
AreOnlyRuns {B} xs c ys e runs =
    AreRunsOf Two (window_of c) (IsCalendarRun xs c) (λ n (b : B). (body_on xs c n ≡ Some b) × (body_on ys e n ≢ Some b)) runs

-- ---- runs of both sides in one list

-- one run comes before another: by first date, and where that is the same the left one before the right one
abbrev pub RunComesBefore : Sided Run → Sided Run → Type 0
RunComesBefore s t = (s.it.first < t.it.first) ⊎ ((s.it.first ≡ t.it.first) × (s.side ≡ Left) × (t.side ≡ Right))

-- the runs rise by first date
abbrev pub AreRisingRuns : List Run → Type 0
AreRisingRuns runs = AllPairs (λ r s. r.first < s.first) runs

-- the runs of both sides in one list, in order
pub record AreMergedRuns (lefts rights : List Run) (merged : List (Sided Run)) : Type 0 where
  pub sides : (side : Side) → of_side side merged ≡ at_side lefts rights side
  pub in_order : AllPairs RunComesBefore merged

-- the runs of both sides are behind the others
pub record AreAppendedRuns (lefts rights : List Run) (old new : List (Sided Run)) : Type 0 where
  pub merged : List (Sided Run)
  pub are : AreMergedRuns lefts rights merged
  pub appended : new ≡ old ++ merged

-- The runs of both sides so far are behind the others, and the rest come after them.
pub record AreMerging (lefts rights : List Run) (l r : List Run) (old new : List (Sided Run)) : Type 0 where
  pub merged : List (Sided Run)
  pub appended : new ≡ old ++ merged
  pub sides : (side : Side) → of_side side merged ++ at_side l r side ≡ at_side lefts rights side
  pub in_order : AllPairs RunComesBefore merged
  pub after : (s t : Sided Run) → Contains merged s → Contains (at_side l r t.side) t.it → RunComesBefore s t
  pub rising : (side : Side) → AreRisingRuns (at_side l r side)

-- the side of the run that comes first of two lists; none where there is no run
abbrev pub IsFirstSide : List Run → List Run → Option Side → Type 0
IsFirstSide [] [] None = Unit {0}
IsFirstSide [] (y ∷ ys) (Some Right) = Unit {0}
IsFirstSide (x ∷ xs) [] (Some Left) = Unit {0}
IsFirstSide (x ∷ xs) (y ∷ ys) (Some Left) = x.first ≤ y.first
IsFirstSide (x ∷ xs) (y ∷ ys) (Some Right) = y.first < x.first
IsFirstSide _ _ _ = ⊥

-- the order of the first locations of two lists, of which one that has none is the greater; none where neither has one
abbrev pub IsFirstOrder : List Tiploc → List Tiploc → Option Ordering → Type 0
IsFirstOrder [] [] None = Unit {0}
IsFirstOrder [] (y ∷ ys) (Some Greater) = Unit {0}
IsFirstOrder (x ∷ xs) [] (Some Less) = Unit {0}
IsFirstOrder (x ∷ xs) (y ∷ ys) (Some order) = slice_cmp nat_cmp x.columns y.columns ≡ order
IsFirstOrder _ _ _ = ⊥

-- Of the locations that only one of two lists has, those so far are found, and the others are left, after them; both rests rise strictly.
pub record AreSifting (lefts rights : List Tiploc) (l r : List Tiploc) (found : List (Sided Tiploc)) : Type 0 where
  pub only : (s : Sided Tiploc) → IsOnlyIn lefts rights s ↔ (Contains found s ⊎ IsOnlyIn l r s)
  pub rising : AllPairs (λ s t. slice_cmp nat_cmp s.it.columns t.it.columns ≡ Less) found
  pub after : (s t : Sided Tiploc) → Contains found s → Contains (at_side l r t.side) t.it →
      slice_cmp nat_cmp s.it.columns t.it.columns ≡ Less
  pub rests : (side : Side) → AllPairs (λ s t. slice_cmp nat_cmp s.columns t.columns ≡ Less) (at_side l r side)

-- the first item has moved behind the others, with its side
pub record HasMoved {T : Type 0} (side : Side) (items rest : List T) (old new : List (Sided T)) : Type 0 where
  pub item : T
  pub items_are : items ≡ item ∷ rest
  pub new_is : new ≡ old ++ (record { side = side; it = item } ∷ [])

-- the first item of a side has moved, and those of the other side are left
abbrev pub HasMovedOf : {T : Type 0} → Side → List T → List T → List T → List T → List (Sided T) → List (Sided T) → Type 0
HasMovedOf side lefts rights l r old new =
    HasMoved side (at_side lefts rights side) (at_side l r side) old new × (at_side r l side ≡ at_side rights lefts side)

-- what a key's two calendars say by themselves is behind the runs that were found
pub record AreKeyDifferences {B : Type 0} (xs : List (Terms B)) (c : CalendarParts) (ys : List (Terms B)) (e : CalendarParts)
    (old new : List (Sided Run)) : Type 0 where
  pub lefts : List Run
  pub rights : List Run
  pub left : AreOnlyRuns xs c ys e lefts
  pub right : AreOnlyRuns ys e xs c rights
  pub appended : AreAppendedRuns lefts rights old new

-- ---- of all keys

-- the run of a side has the dates and the mask of the record, and its source is an entry of that side with its key and its body
pub record IsSidedRunOf {K B : Type 0} (xs ys : List (K × Terms B)) (run : Sided Run) (e : Sided (K × Permanent B)) : Type 0 where
  pub side : run.side ≡ e.side
  pub run_of : IsRunOf (at_side xs ys e.side) run.it e.it

-- both lists are clear, and they say the same
pub record AreSame {K B : Type 0} (window : Window) (xs ys : List (K × Terms B)) : Type 0 where
  pub clear : (side : Side) → AreClear (at_side xs ys side) window.first window.last
  pub same : EntriesSayTheSame xs ys window.first window.last

-- what is first of what is found: nothing where the lists are the same, and else a record with the key and the day of the first
-- difference
abbrev pub IsFirstFound : {K B : Type 0} → (K → K → Ordering) → Window → List (K × Terms B) → List (K × Terms B)
    → List (Sided (K × Permanent B)) → Type 0
IsFirstFound cmp window xs ys [] = AreSame window xs ys
IsFirstFound cmp window xs ys (s ∷ found) = IsFirstDifference cmp xs ys window.first window.last s.it.0 s.it.1.first

-- The runs are, one by one, those of records, of which the first is at the first difference of two lists, and there is none where the
-- lists say the same. Of all keys, which are clear, they are the differences of the lists, and turn the one into the other.
pub record AreDifferentRuns {K B : Type 0} (cmp : K → K → Ordering) (window : Window) (xs ys : List (K × Terms B)) (extent : Extent)
    (runs : List (Sided Run)) : Type 0 where
  pub found : List (Sided (K × Permanent B))
  pub runs_of : AllZip (IsSidedRunOf xs ys) runs found
  pub first : IsFirstFound cmp window xs ys found
  pub none : EntriesSayTheSame xs ys window.first window.last → found ≡ []
  pub clear : extent ≡ AllKeys → (side : Side) → AreClear (at_side xs ys side) window.first window.last
  pub different : extent ≡ AllKeys → AreDifferentRecords cmp window xs ys found
  pub turn : extent ≡ AllKeys → TurnInto window xs ys found
