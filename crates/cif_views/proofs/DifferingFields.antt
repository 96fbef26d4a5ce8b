-- The rows of fields that differ.
use Rattle.cif_views.proofs.Names.{Bool, Bor, Change, Column, FieldPlace, IsTrue, JourneyKind, List, Other, Stop, TableFields, [], and_parts}
use Rattle.cif_views.proofs.Names.{ap, append_assoc, ap₂, are_texts, arith, bytes_decides, call_columns, change_columns, column, column_names}
use Rattle.cif_views.proofs.Names.{columns, columns_of, cond, count_of_calls, differing_row, differing_rows, drop, false, false≢true, field_row}
use Rattle.cif_views.proofs.Names.{field_rows, find, get_or, if◌then◌else◌, in_journey, is_call, is_change, is_identity, is_span}
use Rattle.cif_views.proofs.Names.{is_text, is_text_place, is_within, journey_kind, kind_of_line, kinds, length, names, nat_eq, nat_le}
use Rattle.cif_views.proofs.Names.{own_call_fields, own_change_fields, own_fields, pointwise, refl, row_values, rows_of_place, rows_of_places}
use Rattle.cif_views.proofs.Names.{same_places, slice_index_or, span_in, subst, suc, sym, take, take-take, true, value_in, values_in, zero, ℕ}
use Rattle.cif_views.proofs.Names.{◌&&◌, ◌++◌, ◌+◌, ◌<◌, ◌∙◌, ◌∷◌, ◌≡◌}
use Rattle.cif_views.proofs.RowNames.{Value, cell_of, text, trimmed}
use Rattle.cif_views.proofs.TableRows.{call-fields}
use Rattle.cif_views.specs.Steps.Columns.{is_short, shown_at}
use Rattle.cif_views.{specs.declared.columns.JourneyKind.TheVariants.Origin, specs.declared.columns.JourneyKind.TheVariants.Terminus}
use Rattle.cif_views.specs.declared.columns.FieldPlace.TheVariants as place

-- ---- one field

-- what the place of a field says of its columns in a line of this kind
short-span : (span : ℕ × ℕ) → IsTrue (is_short span) → IsTrue (is_span span)
short-span span short = (and_parts (is_span span) _ short).0

within-span : (kind : JourneyKind) (at : FieldPlace) → IsTrue (is_within at) → IsTrue (is_span (span_in kind at))
within-span kind (place.Text first last) within = within
within-span kind (place.Whole first last) within = within
within-span kind (place.Date first last) within = (and_parts (is_span (first, last)) _ within).0
within-span kind (place.DayFirst first last) within = (and_parts (is_span (first, last)) _ within).0
within-span kind place.Nowhere within = refl
within-span Origin (place.Call o s t) within = short-span o (and_parts (is_short o) _ within).0
within-span Stop (place.Call o s t) within = short-span s (and_parts (is_short s) (is_short t) (and_parts (is_short o) _ within).1).0
within-span Terminus (place.Call o s t) within = short-span t (and_parts (is_short s) (is_short t) (and_parts (is_short o) _ within).1).1
within-span Change (place.Call o s t) within = refl
within-span Other (place.Call o s t) within = refl

pub text-shown : (at : FieldPlace) → IsTrue (is_text_place at) → (there : List ℕ) → cell_of (shown_at at there) ≡ trimmed there
text-shown (place.Text _ _) is there = refl
text-shown place.Nowhere is there = refl
text-shown (place.Call _ _ _) is there = refl
text-shown (place.Whole _ _) is there = absurd (false≢true is)
text-shown (place.Date _ _) is there = absurd (false≢true is)
text-shown (place.DayFirst _ _) is there = absurd (false≢true is)

pub text-value : (at : FieldPlace) → IsTrue (is_text_place at) → (there : List ℕ) → text there ≡ shown_at at there
text-value (place.Text _ _) is there = refl
text-value place.Nowhere is there = refl
text-value (place.Call _ _ _) is there = refl
text-value (place.Whole _ _) is there = absurd (false≢true is)
text-value (place.Date _ _) is there = absurd (false≢true is)
text-value (place.DayFirst _ _) is there = absurd (false≢true is)

module _ (it : Column) (is : IsTrue (is_text it)) where
  place-parts : IsTrue (is_text_place it.1) × IsTrue (is_within it.1)
  place-parts = and_parts (is_text_place it.1) (is_within it.1) (and_parts (nat_le (length it.0) 20) _ is).1

  pub text-span : (kind : JourneyKind) (span : ℕ × ℕ) → span ≡ span_in kind it.1 → IsTrue (is_span span)
  text-span kind span is = subst (λ (s : ℕ × ℕ). IsTrue (is_span s)) (sym is) (within-span kind it.1 place-parts.1)

  pub text-values : (kind : JourneyKind) (line there : List ℕ) (span : ℕ × ℕ) → span ≡ span_in kind it.1 →
      there ≡ columns span.0 span.1 line → text there ≡ value_in kind line it.1
  text-values kind line there span span_is is_there =
      text-value it.1 place-parts.0 there
      ∙ ap (shown_at it.1) (is_there ∙ ap (λ (s : ℕ × ℕ). columns s.0 s.1 line) span_is)

  -- its cells, as the code has them
  module _ (start : List Value) (kind : JourneyKind) (left right one other : List ℕ) (span : ℕ × ℕ) (is-span : span ≡ span_in kind it.1)
      (one_is : one ≡ trimmed (columns span.0 span.1 left)) (other_is : other ≡ trimmed (columns span.0 span.1 right)) where
    shown-one : one ≡ cell_of (value_in kind left it.1)
    shown-one = one_is ∙ ap (λ (s : ℕ × ℕ). trimmed (columns s.0 s.1 left)) is-span ∙ sym (text-shown it.1 place-parts.0 _)

    shown-other : other ≡ cell_of (value_in kind right it.1)
    shown-other = other_is ∙ ap (λ (s : ℕ × ℕ). trimmed (columns s.0 s.1 right)) is-span ∙ sym (text-shown it.1 place-parts.0 _)

    tested : (answer : Bool) → answer ≡ pointwise nat_eq one other → (test : Bool) → answer ≡ test →
        test ≡ pointwise nat_eq (cell_of (value_in kind left it.1)) (cell_of (value_in kind right it.1))
    tested answer known test is = sym is ∙ known ∙ ap₂ (λ (a b : List ℕ). pointwise nat_eq a b) shown-one shown-other

    abbrev row : List Value
    row = differing_row start it.0 (value_in kind left it.1) (value_in kind right it.1)

    pub same-cells : (answer : Bool) → answer ≡ pointwise nat_eq one other → answer ≡ true → [] ≡ field_row start kind left right it
    unfolding field_row
    same-cells answer known is = ap (λ (b : Bool). if b then [] else row ∷ []) (tested answer known true is)

    pub other-cells : (answer : Bool) → answer ≡ pointwise nat_eq one other → answer ≡ false →
        row ∷ [] ≡ field_row start kind left right it
    unfolding field_row
    other-cells answer known is = ap (λ (b : Bool). if b then [] else row ∷ []) (tested answer known false is)

pub text-at : (given : List (Bor (List ℕ) × FieldPlace)) → IsTrue (are_texts (columns_of given)) → (i : ℕ) (none : Bor (List ℕ) × FieldPlace) →
    i < length given → IsTrue (is_text (column (get_or given i none)))
text-at [] all i none below = absurd (omega (arith, below))
text-at (c ∷ given) all zero none below = (and_parts (is_text (column c)) (are_texts (columns_of given)) all).0
text-at (c ∷ given) all (suc i) none below =
    text-at given (and_parts (is_text (column c)) (are_texts (columns_of given)) all).1 i none (omega (arith, below))

-- ---- the rows of fields

-- by their names and values
rows-by : List Value → List (List ℕ) → List Value → List Value → List (List Value)
rows-by start [] lefts rights = []
rows-by start (name ∷ names) [] rights = []
rows-by start (name ∷ names) (left ∷ lefts) [] = []
rows-by start (name ∷ names) (left ∷ lefts) (right ∷ rights) =
    (if pointwise nat_eq (cell_of left) (cell_of right) then [] else differing_row start name left right ∷ [])
    ++ rows-by start names lefts rights

module _ (start : List Value) where
  by-columns : (kind : JourneyKind) (left right : List ℕ) (columns : List Column) →
      field_rows start kind left right columns
      ≡ rows-by start (column_names columns) (values_in kind columns left) (values_in kind columns right)
  unfolding field_row rows-by
  by-columns kind left right [] = refl
  by-columns kind left right (column ∷ columns) =
      ap (λ (l : List (List Value)). field_row start kind left right column ++ l) (by-columns kind left right columns)

  by-fields : (fields : TableFields (List ℕ)) (left right : List ℕ) →
      rows-by start (names fields) (row_values fields left) (row_values fields right) ≡ differing_rows start fields left right
  unfolding rows-by
  by-fields [] left right = refl
  by-fields (f ∷ fields) left right =
      ap (λ (rows : List (List Value)).
      (if pointwise nat_eq (cell_of (f.1 left)) (cell_of (f.1 right)) then []
      else differing_row start f.0 (f.1 left) (f.1 right) ∷ []) ++ rows)
      (by-fields fields left right)

  -- fields that stand in these columns
  pub differing : (fields : TableFields (List ℕ)) (columns : List Column) (kind : JourneyKind) (left right : List ℕ) →
      names fields ≡ column_names columns → row_values fields left ≡ values_in kind columns left →
      row_values fields right ≡ values_in kind columns right →
      field_rows start kind left right columns ≡ differing_rows start fields left right
  differing fields columns kind left right named one other =
      by-columns kind left right columns
      ∙ (λ i. rows-by start (sym named i) (sym one i) (sym other i))
      ∙ by-fields fields left right

-- the same line twice has no rows
pub no-rows : (start : List Value) (kind : JourneyKind) (left right : List ℕ) (columns : List Column) → left ≡ right →
    field_rows start kind left right columns ≡ []
unfolding field_row
no-rows start kind left right [] same = refl
no-rows start kind left right (column ∷ columns) same =
    ap₂ (λ (b : Bool) (rows : List (List Value)).
    (if b then [] else differing_row start column.0 (value_in kind left column.1) (value_in kind right column.1) ∷ []) ++ rows)
    ((bytes_decides _ _).1 (ap (λ (line : List ℕ). cell_of (value_in kind line column.1)) same))
    (no-rows start kind left right columns same)

-- ---- places of journeys

-- lines with the same first columns are of one kind
pub same-kind : (line other : List ℕ) → columns 1 10 line ≡ columns 1 10 other → kind_of_line other ≡ kind_of_line line
same-kind line other same =
    ap (λ (two : List ℕ). journey_kind (find (is_identity two) kinds))
    (sym (take-take 2 10 (drop 0 other) (omega arith)) ∙ ap (take 2) (sym same) ∙ take-take 2 10 (drop 0 line) (omega arith))

module _ (head : List Value) (call : ℕ) (line other : List ℕ) where
  called : (kind : JourneyKind) → kind_of_line line ≡ kind → kind_of_line other ≡ kind →
      field_rows (in_journey head call line) kind line other (drop 3 call_columns)
      ≡ differing_rows (in_journey head call line) own_call_fields line other
  called kind e f =
      differing (in_journey head call line) own_call_fields (drop 3 call_columns) kind line other refl
      (call-fields line kind e) (call-fields other kind f)

  -- the rows of a place, by the kind of its lines
  pub place-rows : (kind : JourneyKind) → kind_of_line line ≡ kind → kind_of_line other ≡ kind →
      rows_of_place head call kind line other
      ≡ differing_rows (in_journey head call line) (own_fields (is_change kind)) line other
  place-rows Origin e f = called Origin e f
  place-rows Stop e f = called Stop e f
  place-rows Terminus e f = called Terminus e f
  place-rows Other e f = called Other e f
  place-rows Change e f =
      differing (in_journey head call line) own_change_fields (drop 2 change_columns) Change line other refl refl refl

-- whether journeys with lines have the same places, by a test of what stands in the first lines
by-first : (lefts rights : List (List ℕ)) → 0 < length lefts → 0 < length rights →
    same_places lefts rights
    ≡ (pointwise nat_eq (columns 1 10 (slice_index_or lefts 0 [])) (columns 1 10 (slice_index_or rights 0 []))
    && same_places (drop 1 lefts) (drop 1 rights))
by-first [] rights some more = absurd (omega (arith, some))
by-first (l ∷ lefts) [] some more = absurd (omega (arith, more))
by-first (l ∷ lefts) (r ∷ rights) some more = refl

pub firsts-tested : (lefts rights : List (List ℕ)) (line other one two : List ℕ) (test : Bool) → 0 < length lefts → 0 < length rights →
    line ≡ slice_index_or lefts 0 [] → other ≡ slice_index_or rights 0 [] → one ≡ columns 1 10 line → two ≡ columns 1 10 other →
    pointwise nat_eq one two ≡ test → same_places lefts rights ≡ (test && same_places (drop 1 lefts) (drop 1 rights))
firsts-tested lefts rights line other one two test some more left right one_is two_is is =
    by-first lefts rights some more
    ∙ ap (λ (b : Bool). b && same_places (drop 1 lefts) (drop 1 rights))
    (ap₂ (λ (a b : List ℕ). pointwise nat_eq a b) (ap (columns 1 10) (sym left) ∙ sym one_is) (ap (columns 1 10) (sym right) ∙ sym two_is)
    ∙ is)

-- journeys with the same places have as many lines
pub as-many : (lefts rights : List (List ℕ)) → IsTrue (same_places lefts rights) → length lefts ≡ length rights
as-many [] [] same = refl
as-many [] (other ∷ rights) same = absurd (false≢true same)
as-many (line ∷ lefts) [] same = absurd (false≢true same)
as-many (line ∷ lefts) (other ∷ rights) same =
    ap suc (as-many lefts rights (and_parts (pointwise nat_eq (columns 1 10 line) (columns 1 10 other)) (same_places lefts rights) same).1)

-- and so have the lines after them
pub rest-places : (lefts rights more others : List (List ℕ)) → IsTrue (same_places lefts rights) → 0 < length lefts →
    more ≡ drop 1 lefts → others ≡ drop 1 rights → IsTrue (same_places more others)
rest-places [] rights more others same some left right = absurd (omega (arith, some))
rest-places (l ∷ lefts) [] more others same some left right = absurd (false≢true same)
rest-places (l ∷ lefts) (r ∷ rights) more others same some left right =
    rw (left, right) (and_parts (pointwise nat_eq (columns 1 10 l) (columns 1 10 r)) (same_places lefts rights) same).1

-- the rows of the lines so far, and of those that are left, are all
module _ (head : List Value) (whole : List (List Value)) where
  abbrev pub PlacesAreLeft : List (List Value) → ℕ → List (List ℕ) → List (List ℕ) → Type 0
  PlacesAreLeft done call lefts rights = done ++ rows_of_places head call lefts rights ≡ whole

  pub one-place : (done : List (List Value)) (call next : ℕ) (kind : JourneyKind) (lefts rights : List (List ℕ)) (line other : List ℕ)
      (more others : List (List ℕ)) → lefts ≡ line ∷ more → rights ≡ other ∷ others → kind ≡ kind_of_line line →
      next ≡ cond (is_call kind) (call + 1) call → PlacesAreLeft done call lefts rights →
      PlacesAreLeft (done ++ rows_of_place head call kind line other) next more others
  one-place done call next kind lefts rights line other more others left right of_line after_line is =
      rw (after_line, of_line) (append_assoc done (rows_of_place head call (kind_of_line line) line other) _ ∙ rw (left, right) at is)

-- the calls so far and those of the rest are all, with one line more
one-counted : (is : Bool) (count next total n : ℕ) → next ≡ cond is (count + 1) count → total ≡ count + cond is (n + 1) n → total ≡ next + n
one-counted true count next total n e all = omega (arith, e, all)
one-counted false count next total n e all = omega (arith, e, all)

pub counted-more : (count next total : ℕ) (kind : JourneyKind) (lines rest : List (List ℕ)) (line : List ℕ) → lines ≡ line ∷ rest →
    kind ≡ kind_of_line line → next ≡ cond (is_call kind) (count + 1) count → total ≡ count + count_of_calls lines →
    total ≡ next + count_of_calls rest
counted-more count next total kind lines rest line is of_line e all =
    one-counted (is_call kind) count next total (count_of_calls rest) e (rw of_line (all ∙ ap (λ ls. count + count_of_calls ls) is))
