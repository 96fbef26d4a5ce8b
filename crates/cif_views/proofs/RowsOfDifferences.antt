-- Each difference has a row: the bodies of a pair differ, and where all cells are the same they don't.
use Rattle.cif_views.proofs.Names.{All, All-contains, AllFit, AreByPairs, AreDifferences, AreDifferentRecords, AreNone, ArePair, AssocBody}
use Rattle.cif_views.proofs.Names.{AssocKey, Association, BodyLines, BodyRuns, Bool, Contains, Contains-append_left, Contains-append_right}
use Rattle.cif_views.proofs.Names.{Contains-cases, Contains-first, Contains-none, Contains-rest, DifferencesParts, ExtractParts, HasRow}
use Rattle.cif_views.proofs.Names.{HaveRows, IfSome, IsAccepted, IsAlignedTwo, IsBody, IsWithin, Left, List, Listed, None, OnlySays, Option}
use Rattle.cif_views.proofs.Names.{Ordering, Permanent, Right, RunsOn, Schedule, ScheduleFits, ScheduleLines, Side, Sided, Some, Terms, Two}
use Rattle.cif_views.proofs.Names.{Window, [], ap, arith, association_differences, association_entries, association_entry}
use Rattle.cif_views.proofs.Names.{association_lines, association_plain, associations-by_pairs, at_side, basic_rows, by_pairs}
use Rattle.cif_views.proofs.Names.{contents_of, detail_of, difference_rows, flat_map, header_window, key_cmp, length}
use Rattle.cif_views.proofs.Names.{listed_as, map, nat_cmp, of_key, of_side, option_map}
use Rattle.cif_views.proofs.Names.{parts_of, refl, schedule_differences, schedule_entries, schedule_entry}
use Rattle.cif_views.proofs.Names.{schedule_lines, schedule_plain, schedules-by_pairs, side-member, slice_cmp, spelled-fits, subst, sym}
use Rattle.cif_views.proofs.Names.{tiploc_lines, tiploc_row, weekday_of, ℕ, ⊎_elim, ◌++◌, ◌<◌, ◌↔◌, ◌∙◌, ◌∷◌, ◌≡◌, ◌≤◌}
use Rattle.cif_records.proofs.Headers as headers
use Rattle.cif_records.specs.Association as aa
use Rattle.cif_weeks.specs.Applies.{Applies}
use Rattle.cif_canon.proofs.MadeFits.{HasTerms, have-terms, permanent-association, permanent-basic}
use Rattle.cif_canon.specs.declared.asked.Asked.{Asked}
use Rattle.cif_views.proofs.DifferingCells.{both-none}
use Rattle.cif_views.proofs.RowNames.{Value}
use Rattle.cif_views.proofs.PairedBodies.{FitsLines, association_line, same-association, same-body}

-- ---- elements

in-flat : {A B : Type 0} (f : A → List B) (xs : List A) (x : A) (y : B) → Contains xs x → Contains (f x) y → Contains (flat_map f xs) y
in-flat f [] x y h k = absurd (Contains-none x h)
in-flat f (z ∷ xs) x y h k = ⊎_elim
    (λ e. Contains-append_left (f z) (flat_map f xs) y (subst (λ w. Contains (f w) y) (sym e) k))
    (λ later. Contains-append_right (f z) (flat_map f xs) y (in-flat f xs x y later k))
    (Contains-cases z xs x h)

record IsImage {A B : Type 0} (f : A → B) (xs : List A) (y : B) : Type 0 where
  it : A
  there : Contains xs it
  is : f it ≡ y

from-map : {A B : Type 0} (f : A → B) (xs : List A) (y : B) → Contains (map f xs) y → IsImage f xs y
from-map f [] y h = absurd (Contains-none y h)
from-map f (x ∷ xs) y h = ⊎_elim
    (λ e. record { it = x; there = Contains-first x xs; is = e })
    (λ later.
    let found = from-map f xs y later in
    record { it = found.it; there = Contains-rest x xs found.it found.there; is = found.is })
    (Contains-cases (f x) (map f xs) y h)

map-none : {A B : Type 0} (f : A → B) (xs : List A) → map f xs ≡ [] → xs ≡ []
map-none f [] none = refl
map-none f (x ∷ xs) none = absurd (let long = ap length none in omega (arith, long))

some-if : {R : Type 0} (xs : List R) → (xs ≡ [] → ⊥) → 0 < length xs
some-if [] h = absurd (h refl)
some-if (x ∷ xs) h = omega arith

none-listed : {A R : Type 0} (text : A → List R) (items : List A) → ((a : A) → Contains items a → 0 < length (text a)) →
    flat_map text items ≡ [] → items ≡ []
none-listed text [] some none = refl
none-listed text (a ∷ items) some none =
    let here = some a (Contains-first a items) in
    let empty = ap length (both-none (text a) (flat_map text items) none).0 in
    absurd (omega (arith, here, empty))

-- ---- the bodies of a pair differ

module _ {K B : Type 0} (cmp : K → K → Ordering) (window : Window) (xs ys : List (K × Terms B)) (found : List (Sided (K × Permanent B)))
    (are : AreDifferentRecords cmp window xs ys found) where
  -- a record applies on some day of the window, and its side alone says its body there
  record Says (side : Side) (e : K × Permanent B) : Type 0 where
    day : ℕ
    within : IsWithin window day
    applies : Applies e.1 day
    only : OnlySays (at_side xs ys side) (at_side ys xs side) e.0 day e.1.body

  says-on : (side : Side) (e : K × Permanent B) → Contains (of_side side found) e → (n : ℕ) → IsWithin window n → Applies e.1 n →
      OnlySays (at_side xs ys side) (at_side ys xs side) e.0 n e.1.body
  says-on side e h n within applies =
      ((are.only side).exact e.0 n e.1.body within).0 (record { it = e.1; listed = h; applies = applies; body = refl })

  says : (side : Side) (e : K × Permanent B) → Contains (of_side side found) e → Says side e
  says side e h =
      let a : IsAlignedTwo window e.1 = ((are.only side).canonical.have_form e.0).aligned e.1 h in
      let (n, same, applies) = a.used (weekday_of e.1.first) a.first.in_mask in
      let from = a.first.within.from in
      let begun = applies.begun in
      let upto = a.last.within.upto in
      let unfinished = applies.unfinished in
      let within : IsWithin window n = record { from = omega (arith, from, begun); upto = omega (arith, upto, unfinished) } in
      record { day = n; within = within; applies = applies; only = says-on side e h n within applies }

  bodies-differ : (s : Sided (K × Permanent B)) (r : K × Permanent B) → Contains (of_side Left found) s.it →
      Contains (of_side Right found) r → ArePair s (record { side = Right; it = r }) → s.it.1.body ≡ r.1.body → ⊥
  bodies-differ s r left right pair same =
      let mine = says Left s.it left in
      let there : Applies r.1 mine.day = record {
        begun = subst (λ f. f ≤ mine.day) pair.first mine.applies.begun;
        unfinished = subst (λ l. mine.day ≤ l) pair.last mine.applies.unfinished;
        on_weekday = subst (λ (m : List Bool). RunsOn m (weekday_of mine.day)) pair.days mine.applies.on_weekday;
      } in
      let theirs = says-on Right r right mine.day mine.within there in
      mine.only.differs (subst (λ k. BodyRuns (of_key ys k) mine.day s.it.1.body) (sym pair.key)
      (subst (λ b. BodyRuns (of_key ys r.0) mine.day b) (sym same) theirs.runs))

  -- ---- so each that is listed has a row

  module _ (listed : List (Listed (K × Permanent B))) (by : AreByPairs found listed) (Fits : K × Permanent B → Type 0)
      (rows : Listed (K × Permanent B) → List (List Value)) (fits : (side : Side) (e : K × Permanent B) → Contains (of_side side found) e → Fits e)
      (alone : (s : Sided (K × Permanent B)) → 0 < length (rows (s, None)))
      (same : (s : Sided (K × Permanent B)) (r : K × Permanent B) → Fits s.it → Fits r → rows (s, Some r) ≡ [] → s.it.1.body ≡ r.1.body)
    where
      there : (l : Listed (K × Permanent B)) (s : Sided (K × Permanent B)) → Contains listed l → Contains (parts_of l) s →
          Contains (of_side s.side found) s.it
      there l s h part = side-member found s (subst (λ (f : List (Sided (K × Permanent B))). Contains f s) by.parts
          (in-flat parts_of listed l s h part))

      has-row : (l : Listed (K × Permanent B)) → Contains listed l → 0 < length (rows l)
      has-row (s, None) h = alone s
      has-row (s, Some r) h =
          let t : Sided (K × Permanent B) = record { side = Right; it = r } in
          let pair = by.pairs s r h in
          let left : Contains (of_side Left found) s.it =
          subst (λ (side : Side). Contains (of_side side found) s.it) pair.left (there (s, Some r) s h (Contains-first s (t ∷ []))) in
          let right = there (s, Some r) t h (Contains-rest s (t ∷ []) t (Contains-first t [])) in
          some-if (rows (s, Some r)) (λ none. bodies-differ s r left right pair (same s r (fits Left s.it left) (fits Right r right) none))

      none-found : listed ≡ [] → found ≡ []
      none-found none = sym by.parts ∙ ap (flat_map parts_of) none

-- ---- what is listed of accepted extracts fits its columns

record FitLists (x : ExtractParts) : Type 0 where
  associations : All (λ (a : Association). AllFit (aa.association_table a)) x.associations
  schedules : All ScheduleFits x.schedules

accepted-fits : (asked : Asked) (input : List ℕ) (x : ExtractParts) → IsAccepted asked x input → FitLists x
accepted-fits asked input x a =
    let fits = spelled-fits (contents_of input) a.whole a.spelled.are_lines a.spelled.spelled in
    record {
      associations = subst (All (λ (a : Association). AllFit (aa.association_table a))) (sym a.narrowed.associations) fits.associations;
      schedules = subst (All ScheduleFits) (sym a.narrowed.schedules) fits.schedules;
    }

-- what fits of the records fits of their entries
abbrev pub AssociationEntryFits : AssocKey × Terms AssocBody → Type 0
AssociationEntryFits e = AllFit (aa.association_rows e.0 e.1.first e.1.last e.1.days e.1.letter e.1.body)

pub record ScheduleEntryFits (e : List ℕ × Terms BodyLines) : Type 0 where
  pub basic : AllFit (basic_rows e.0 e.1.first e.1.last e.1.days e.1.letter (option_map detail_of e.1.body))
  pub body : IfSome e.1.body IsBody

of-entry : {X Y : Type 0} (entry : X → Y) (P : X → Type 0) (Q : Y → Type 0) → ((x : X) → P x → Q (entry x)) → (xs : List X) (y : Y) →
    All P xs → Contains (map entry xs) y → Q y
of-entry entry P Q f xs y fits h =
    let found = from-map entry xs y h in subst Q found.is (f found.it (All-contains P xs found.it fits found.there))

module _ (x y : ExtractParts) (d : DifferencesParts) (a : FitLists x) (b : FitLists y) (are : AreDifferences x y d) where
  abbrev window : Window
  window = header_window x.header

  association-listed : (side : Side) (e : AssocKey × Terms AssocBody) →
      Contains (at_side (association_entries x.associations) (association_entries y.associations) side) e → AssociationEntryFits e
  association-listed Left e h = of-entry association_entry _ AssociationEntryFits (λ r f. f) x.associations e a.associations h
  association-listed Right e h = of-entry association_entry _ AssociationEntryFits (λ r f. f) y.associations e b.associations h

  schedule-listed : (side : Side) (e : List ℕ × Terms BodyLines) →
      Contains (at_side (schedule_entries x.schedules) (schedule_entries y.schedules) side) e → ScheduleEntryFits e
  schedule-listed side e h = at side h
    where
      own : (s : Schedule) → ScheduleFits s → ScheduleEntryFits (schedule_entry s)
      own s f = record { basic = f.basic; body = f.body }

      at : (side : Side) → Contains (at_side (schedule_entries x.schedules) (schedule_entries y.schedules) side) e → ScheduleEntryFits e
      at Left h = of-entry schedule_entry ScheduleFits ScheduleEntryFits own x.schedules e a.schedules h
      at Right h = of-entry schedule_entry ScheduleFits ScheduleEntryFits own y.schedules e b.schedules h

  association-lines-fit : (side : Side) (e : AssocKey × Permanent AssocBody) → Contains (of_side side d.associations) e →
      AllFit (association_line e)
  association-lines-fit side e h =
      let said = says key_cmp window (association_entries x.associations) (association_entries y.associations) d.associations
      are.associations side e h in
      let runs = said.only.runs in
      let t = runs.winner in
      let own = subst (λ (o : Option AssocBody). AllFit (aa.association_rows e.0 t.first t.last t.days t.letter o)) runs.body
      (association-listed side (e.0, t) runs.wins.listed) in
      permanent-association e.0 t.first t.last t.days t.letter e.1.body e.1.first e.1.last e.1.days own
      (All-contains HasTerms (of_side side d.associations) e
      (have-terms key_cmp Two window (of_side side d.associations) (are.associations.only side).canonical (headers.last_is_day x.header)) h)

  schedule-lines-fit : (side : Side) (e : List ℕ × Permanent BodyLines) → Contains (of_side side d.schedules) e → FitsLines e
  schedule-lines-fit side e h =
      let said = says (slice_cmp nat_cmp) window (schedule_entries x.schedules) (schedule_entries y.schedules) d.schedules
      are.schedules side e h in
      let runs = said.only.runs in
      let t = runs.winner in
      let own = schedule-listed side (e.0, t) runs.wins.listed in
      record {
        basic = permanent-basic e.0 t.first t.last t.days t.letter (detail_of e.1.body) e.1.first e.1.last e.1.days
            (subst (λ (o : Option BodyLines). AllFit (basic_rows e.0 t.first t.last t.days t.letter (option_map detail_of o))) runs.body
            own.basic)
            (All-contains HasTerms (of_side side d.schedules) e
            (have-terms (slice_cmp nat_cmp) Two window (of_side side d.schedules) (are.schedules.only side).canonical
            (headers.last_is_day x.header)) h);
        body = subst (λ o. IfSome o IsBody) runs.body own.body;
      }

  abbrev associations_listed : List (Listed (AssocKey × Permanent AssocBody))
  associations_listed = by_pairs key_cmp d.associations

  abbrev schedules_listed : List (Listed (List ℕ × Permanent BodyLines))
  schedules_listed = by_pairs (slice_cmp nat_cmp) d.schedules

  association-row : (l : Listed (AssocKey × Permanent AssocBody)) → Contains associations_listed l →
      HasRow (association_differences (listed_as association_plain l))
  association-row =
      has-row key_cmp window (association_entries x.associations) (association_entries y.associations) d.associations are.associations
      associations_listed (associations-by_pairs x y d are) (λ e. AllFit (association_line e))
      (λ l. association_differences (listed_as association_plain l)) association-lines-fit
      (λ s. omega arith)
      (λ s r one other none. same-association s.it r one other none)

  schedule-row : (l : Listed (List ℕ × Permanent BodyLines)) → Contains schedules_listed l →
      HasRow (schedule_differences (listed_as schedule_plain l))
  schedule-row =
      has-row (slice_cmp nat_cmp) window (schedule_entries x.schedules) (schedule_entries y.schedules) d.schedules are.schedules
      schedules_listed (schedules-by_pairs x y d are) FitsLines
      (λ l. schedule_differences (listed_as schedule_plain l)) schedule-lines-fit
      (λ s. omega arith)
      (λ s r one other none. same-body s.it r one other none)

  rows-are : HaveRows d
  rows-are = record {
    associations = λ l h.
        let found = from-map (listed_as association_plain) associations_listed l h in
        subst (λ (k : Listed (List ℕ)). HasRow (association_differences k)) found.is (association-row found.it found.there);
    schedules = λ l h.
        let found = from-map (listed_as schedule_plain) schedules_listed l h in
        subst (λ (k : Listed ScheduleLines). HasRow (schedule_differences k)) found.is (schedule-row found.it found.there);
  }

  -- where no row is, nothing is listed
  no-row : difference_rows d ≡ [] → AreNone d
  no-row none =
      let locations = map tiploc_row (tiploc_lines d) in
      let associations = flat_map association_differences (association_lines d) in
      let schedules = flat_map schedule_differences (schedule_lines d) in
      let (one, more) = both-none locations (associations ++ schedules) none in
      let (two, three) = both-none associations schedules more in
      record {
        tiplocs = map-none _ d.tiplocs (map-none tiploc_row (tiploc_lines d) one);
        associations = sym (associations-by_pairs x y d are).parts ∙ ap (flat_map parts_of)
            (map-none (listed_as association_plain) associations_listed
            (none-listed association_differences (association_lines d) rows-are.associations two));
        schedules = sym (schedules-by_pairs x y d are).parts ∙ ap (flat_map parts_of)
            (map-none (listed_as schedule_plain) schedules_listed
            (none-listed schedule_differences (schedule_lines d) rows-are.schedules three));
      }

-- and where nothing is listed, no row is
row-of_none : (d : DifferencesParts) → AreNone d → difference_rows d ≡ []
row-of_none d none = rw (none.tiplocs, none.associations, none.schedules) refl

module _ (asked other : Asked) (left right : List ℕ) (x y : ExtractParts) (d : DifferencesParts) (one : IsAccepted asked x left)
    (two : IsAccepted other y right) (are : AreDifferences x y d) where
  pub have-rows : HaveRows d
  have-rows = rows-are x y d (accepted-fits asked left x one) (accepted-fits other right y two) are

  pub no-row_for-none : (difference_rows d ≡ []) ↔ AreNone d
  no-row_for-none = (no-row x y d (accepted-fits asked left x one) (accepted-fits other right y two) are, row-of_none d)
