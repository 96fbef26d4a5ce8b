-- What only one of two extracts says, as canonical records of each side, and the text of it.
use Rattle.std.specs.Prelude.{AllPairs, Bool, Contains, List, None, Option, Some, [], codes, false, if◌then◌else◌, map, true, ℕ, ◌++◌, ◌↔◌}
use Rattle.std.specs.{Cmp.Lexicographic.slice_cmp, List.flat_map, Ordering.nat_cmp, Prelude.◌∷◌, Prelude.◌≡◌, Prelude.◌⊎◌}
use Rattle.std.specs.{declared.cmp.Ordering.Ordering, declared.cmp.Ordering.TheVariants.Less}
use Rattle.cif_calendar.specs.{Entries.association_entries, Entries.schedule_entries, Keys.of_key, Terms.Terms}
use Rattle.cif_calendar.specs.Runs.{BodyRuns, NothingRuns, Runs}
use Rattle.cif_columns.specs.{Contents.lines_text, Field.plain_line, declared.stp.Stp.TheVariants.P}
use Rattle.cif_extract.specs.{Body.BodyLines, ExtractParts.ExtractParts, Texts.schedule_lines}
use Rattle.cif_records.specs.{AssocKey.key_cmp, Association.association_rows, Tiploc.tiploc_table}
use Rattle.cif_records.specs.declared.{association.AssocBody.AssocBody, association.AssocKey.AssocKey, tiploc.Tiploc.Tiploc}
use Rattle.cif_weeks.specs.{Canonical.AreCanonical, Canonical.Precedes, Permanent.Permanent, WhatRuns.HasBody, Window.IsWithin}
use Rattle.cif_weeks.specs.{Window.Window, declared.form.Form.TheVariants.Two}
use Rattle.cif_canon.specs.{Accepted.IsClearExtract, Asked.header_window}
use Rattle.cif_canon.specs.declared.{listed_differences.Side.Side, listed_differences.Side.TheVariants.Left}
use Rattle.cif_canon.specs.declared.{listed_differences.Side.TheVariants.Right, listed_differences.Sided.Sided}

-- ---- what only one side says

-- For key k on day d only the first list says body b: it runs by the first list, and by the second another body does, or none.
pub record OnlySays {K B : Type 0} (xs ys : List (K × Terms B)) (k : K) (d : ℕ) (b : B) : Type 0 where
  pub runs : BodyRuns (of_key xs k) d b
  pub differs : ¬ BodyRuns (of_key ys k) d b

-- the side is this one
abbrev pub is_side : Side → Side → Bool
is_side Left Left = true
is_side Left Right = false
is_side Right Left = false
is_side Right Right = true

-- those of one side, in their order
abbrev pub of_side : {A : Type 0} → Side → List (Sided A) → List A
of_side side [] = []
of_side side (s ∷ rest) = if is_side side s.side then s.it ∷ of_side side rest else of_side side rest

-- the one that is of a side, where the first is the left one's and the second the right one's
abbrev pub at_side : {A : Type 0} → A → A → Side → A
at_side left right Left = left
at_side left right Right = right

-- The records are the canonical records, in form 2, of what only the first list says: on each day of the window one with body b
-- applies exactly where the first list alone says b.
pub record AreOnlyRecords {K B : Type 0} (cmp : K → K → Ordering) (window : Window) (xs ys : List (K × Terms B))
    (records : List (K × Permanent B)) : Type 0 where
  pub canonical : AreCanonical cmp Two window records
  pub exact : (k : K) (d : ℕ) (b : B) → IsWithin window d → HasBody (of_key records k) d b ↔ OnlySays xs ys k d b

-- one record comes before another: by key, for one key by first day, and where these are equal too the left one before the right one
abbrev pub ComesBefore : {K B : Type 0} → (K → K → Ordering) → Sided (K × Permanent B) → Sided (K × Permanent B) → Type 0
ComesBefore cmp s t =
    Precedes cmp s.it t.it
    ⊎ ((s.it.0 ≡ t.it.0) × (s.it.1.first ≡ t.it.1.first) × (s.side ≡ Left) × (t.side ≡ Right))

-- the differences of two lists of entries: the records of what only the left one says and of what only the right one says, in order
pub record AreDifferentRecords {K B : Type 0} (cmp : K → K → Ordering) (window : Window) (xs ys : List (K × Terms B))
    (found : List (Sided (K × Permanent B))) : Type 0 where
  pub only : (side : Side) → AreOnlyRecords cmp window (at_side xs ys side) (at_side ys xs side) (of_side side found)
  pub in_order : AllPairs (ComesBefore cmp) found

-- of two lists only that of the location's side has it
abbrev pub IsOnlyIn : List Tiploc → List Tiploc → Sided Tiploc → Type 0
IsOnlyIn xs ys s = Contains (at_side xs ys s.side) s.it × ¬ Contains (at_side ys xs s.side) s.it

-- the locations that only one of two lists has, rising strictly by their columns
pub record AreDifferentTiplocs (xs ys : List Tiploc) (found : List (Sided Tiploc)) : Type 0 where
  pub only : (s : Sided Tiploc) → Contains found s ↔ IsOnlyIn xs ys s
  pub rising : AllPairs (λ s t. slice_cmp nat_cmp s.it.columns t.it.columns ≡ Less) found

-- the differences of two extracts: locations, records of associations, records of schedules
pub record DifferencesParts : Type 0 where
  pub tiplocs : List (Sided Tiploc)
  pub associations : List (Sided (AssocKey × Permanent AssocBody))
  pub schedules : List (Sided (List ℕ × Permanent BodyLines))

-- there is none
pub record AreNone (d : DifferencesParts) : Type 0 where
  pub tiplocs : d.tiplocs ≡ []
  pub associations : d.associations ≡ []
  pub schedules : d.schedules ≡ []

-- The extracts have one window, each is clear, and these are their differences.
pub record AreDifferences (x y : ExtractParts) (d : DifferencesParts) : Type 0 where
  pub window : header_window x.header ≡ header_window y.header
  pub left : IsClearExtract x
  pub right : IsClearExtract y
  pub tiplocs : AreDifferentTiplocs x.tiplocs y.tiplocs d.tiplocs
  pub associations :
      AreDifferentRecords key_cmp (header_window x.header) (association_entries x.associations) (association_entries y.associations)
      d.associations
  pub schedules :
      AreDifferentRecords (slice_cmp nat_cmp) (header_window x.header) (schedule_entries x.schedules) (schedule_entries y.schedules)
      d.schedules

-- ---- how they turn what the left one says into what the right one says

-- on day d the records of a side say nothing of key k, or they say some body
abbrev pub SaysNothing : {K B : Type 0} → Side → List (Sided (K × Permanent B)) → K → ℕ → Type 0
SaysNothing {K} {B} side found k d = (b : B) → ¬ HasBody (of_key (of_side side found) k) d b

abbrev pub SaysSomething : {K B : Type 0} → Side → List (Sided (K × Permanent B)) → K → ℕ → Type 0
SaysSomething {K} {B} side found k d = (b : B) × HasBody (of_key (of_side side found) k) d b

-- What runs once the differences are applied to a list: what the right one's records say; where they say nothing, nothing where the left
-- one's say something; and else what runs by the list.
abbrev pub RunsApplied : {K B : Type 0} → List (K × Terms B) → List (Sided (K × Permanent B)) → K → ℕ → Option B → Type 0
RunsApplied xs found k d (Some b) =
    HasBody (of_key (of_side Right found) k) d b
    ⊎ (SaysNothing Right found k d × SaysNothing Left found k d × BodyRuns (of_key xs k) d b)
RunsApplied xs found k d None =
    SaysNothing Right found k d × (SaysSomething Left found k d ⊎ NothingRuns (of_key xs k) d)

-- the differences turn what the first list says into what the second says
pub record TurnInto {K B : Type 0} (window : Window) (xs ys : List (K × Terms B)) (found : List (Sided (K × Permanent B))) : Type 0 where
  pub runs : (k : K) (d : ℕ) (o : Option B) → IsWithin window d → Runs (of_key ys k) d o ↔ RunsApplied xs found k d o

-- The differences of two extracts turn what the left one says into what the right one says: of its locations those that only the left
-- has are left out, and those that only the right has are added; and so it is with what runs.
pub record TurnLeftIntoRight (x y : ExtractParts) (d : DifferencesParts) : Type 0 where
  pub tiplocs : (t : Tiploc) → Contains y.tiplocs t
      ↔ (Contains (of_side Right d.tiplocs) t ⊎ (Contains x.tiplocs t × ¬ Contains (of_side Left d.tiplocs) t))
  pub associations :
      TurnInto (header_window x.header) (association_entries x.associations) (association_entries y.associations) d.associations
  pub schedules : TurnInto (header_window x.header) (schedule_entries x.schedules) (schedule_entries y.schedules) d.schedules

-- ---- their text

-- what is before each line of a side
abbrev pub mark : Side → List ℕ
mark Left = codes "< "
mark Right = codes "> "

-- lines, each behind the mark of its side and with a line feed
abbrev pub marked_text : Side → List (List ℕ) → List ℕ
marked_text side lines = lines_text (map (λ line. mark side ++ line) lines)

-- the plain lines of a location, of a permanent association, of a permanent schedule, behind the mark
abbrev pub marked_tiploc : Sided Tiploc → List ℕ
marked_tiploc s = marked_text s.side (plain_line (tiploc_table s.it) ∷ [])

abbrev pub marked_association : Sided (AssocKey × Permanent AssocBody) → List ℕ
marked_association s =
    marked_text s.side
    (plain_line (association_rows s.it.0 s.it.1.first s.it.1.last s.it.1.days P (Some s.it.1.body)) ∷ [])

abbrev pub marked_schedule : Sided (List ℕ × Permanent BodyLines) → List ℕ
marked_schedule s = marked_text s.side (schedule_lines s.it.0 s.it.1.first s.it.1.last s.it.1.days P (Some s.it.1.body))

-- the text of the differences: locations, then associations, then schedules
unfoldable pub differences_text : DifferencesParts → List ℕ
differences_text d =
    flat_map marked_tiploc d.tiplocs ++ (flat_map marked_association d.associations ++ flat_map marked_schedule d.schedules)
