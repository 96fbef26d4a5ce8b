-- The rows of pairs, as they are written: of their fields, and of their journeys by lines.
use Rattle.cif_views.proofs.Names.{Bool, IsTrue, Left, List, Numbered, Other, ScheduleLines, Some, []}
use Rattle.cif_views.proofs.Names.{and_parts, ap, ap₂, arith, association_columns, association_differences, association_head}
use Rattle.cif_views.proofs.Names.{basic_columns, bytes_decides, call_count, category_fields, changed, codes, columns, cond}
use Rattle.cif_views.proofs.Names.{count_of_calls, detail_fields, differing_row, drop, extra_columns, extra_fields}
use Rattle.cif_views.proofs.Names.{extra_identity, extra_in, false, field_rows, flat_map-append, if◌then◌else◌, in_record, is_call}
use Rattle.cif_views.proofs.Names.{journey_differences, kind_of_line, length, map, nat_eq, numbered_from, place_columns, place_rows}
use Rattle.cif_views.proofs.Names.{pointwise, refl, row_of_counts, rows_of_journeys, rows_of_places, same_places}
use Rattle.cif_views.proofs.Names.{schedule_differences, schedule_head, sym, take, true, type_fields, without_extra, ℕ, ◌++◌, ◌+◌}
use Rattle.cif_views.proofs.Names.{◌∙◌, ◌∷◌, ◌≡◌}
use Rattle.cif_views.proofs.RowNames.{Value, cell_of}
use Rattle.cif_views.proofs.DifferingFields.{differing, place-rows, same-kind}

-- ---- the lines of two journeys, numbered

places-of : (schedule call : ℕ) (lines : List (List ℕ)) → map place_columns (numbered_from schedule call lines) ≡ map (columns 1 10) lines
places-of schedule call [] = refl
places-of schedule call (line ∷ lines) =
    ap (λ (ls : List (List ℕ)). columns 1 10 line ∷ ls) (places-of schedule (cond (is_call (kind_of_line line)) (call + 1) call) lines)

counted : (is : Bool) (p : Numbered) (ps : List Numbered) (n : ℕ) → length ps ≡ n → length (cond is (p ∷ ps) ps) ≡ cond is (n + 1) n
counted true p ps n e = omega (arith, e)
counted false p ps n e = e

calls-of : (schedule call : ℕ) (lines : List (List ℕ)) → call_count (numbered_from schedule call lines) ≡ count_of_calls lines
calls-of schedule call [] = refl
calls-of schedule call (line ∷ lines) =
    counted (is_call (kind_of_line line)) (record { schedule = schedule; call = call; line = line }) _ (count_of_calls lines)
    (calls-of schedule (cond (is_call (kind_of_line line)) (call + 1) call) lines)

-- one of two, by a test
by-test : {A : Type 0} (test : Bool) (a b c d : A) → (IsTrue test → a ≡ b) → c ≡ d → cond test a c ≡ cond test b d
by-test true a b c d same other = same refl
by-test false a b c d same other = other

-- after the same first values
module _ (head : List Value) where
  by-lines : (call next : ℕ) (lefts rights : List (List ℕ)) → IsTrue (same_places lefts rights) →
      place_rows head (numbered_from 0 call lefts) (numbered_from 0 next rights) ≡ rows_of_places head call lefts rights
  by-lines call next [] rights same = refl
  by-lines call next (line ∷ lefts) [] same = refl
  by-lines call next (line ∷ lefts) (other ∷ rights) same =
      let (place, later) = and_parts (pointwise nat_eq (columns 1 10 line) (columns 1 10 other)) (same_places lefts rights) same in
      ap₂ (λ (row rows : List (List Value)). row ++ rows)
      (sym (place-rows head call line other (kind_of_line line) refl
      (same-kind line other ((bytes_decides (columns 1 10 line) (columns 1 10 other)).0 place))))
      (by-lines (cond (is_call (kind_of_line line)) (call + 1) call) (cond (is_call (kind_of_line other)) (next + 1) next) lefts rights
      later)

  pub journeys-by-lines : (lefts rights : List (List ℕ)) →
      rows_of_journeys head lefts rights ≡ journey_differences head (numbered_from 0 1 lefts) (numbered_from 0 1 rights)
  journeys-by-lines lefts rights = sym (
      (λ i. cond (pointwise (pointwise nat_eq) (places-of 0 1 lefts i) (places-of 0 1 rights i))
      (place_rows head (numbered_from 0 1 lefts) (numbered_from 0 1 rights))
      (row_of_counts head (calls-of 0 1 lefts i) (calls-of 0 1 rights i) ∷ []))
      ∙ by-test (same_places lefts rights) _ _ _ _ (by-lines 1 1 lefts rights) refl)

-- ---- a pair of associations

module _ (l m : List ℕ) where
  abbrev begins : List Value
  begins = in_record (association_head changed l) (codes "AA")

  pub association-rows : field_rows begins Other l m (take 2 (drop 5 association_columns))
      ++ field_rows begins Other l m (drop 10 association_columns)
      ≡ association_differences (record { side = Left; it = l }, Some m)
  association-rows =
      ap₂ (λ (a b : List (List Value)). a ++ b)
      (differing begins category_fields (take 2 (drop 5 association_columns)) Other l m refl refl refl)
      (differing begins type_fields (drop 10 association_columns) Other l m refl refl refl)
      ∙ sym (flat_map-append (λ f. if pointwise nat_eq (cell_of (f.1 l)) (cell_of (f.1 m)) then []
      else differing_row begins f.0 (f.1 l) (f.1 m) ∷ []) category_fields type_fields)

-- ---- a pair of schedules

module _ (s t : ScheduleLines) where
  abbrev head : List Value
  head = schedule_head changed s.basic

  pub schedule-rows :
      field_rows (in_record head (codes "BS")) Other s.basic t.basic (drop 4 basic_columns)
      ++ (field_rows (in_record head (codes "BS")) Other (extra_in s.further) (extra_in t.further) (take 1 extra_columns)
      ++ (field_rows (in_record head (codes "BX")) Other (extra_in s.further) (extra_in t.further) (drop 1 extra_columns)
      ++ rows_of_journeys head (without_extra s.further) (without_extra t.further)))
      ≡ schedule_differences (record { side = Left; it = s }, Some t)
  schedule-rows =
      let x = extra_in s.further in
      let y = extra_in t.further in
      λ i.
      differing (in_record head (codes "BS")) detail_fields (drop 4 basic_columns) Other s.basic t.basic refl refl refl i
      ++ (differing (in_record head (codes "BS")) extra_identity (take 1 extra_columns) Other x y refl refl refl i
      ++ (differing (in_record head (codes "BX")) extra_fields (drop 1 extra_columns) Other x y refl refl refl i
      ++ journeys-by-lines head (without_extra s.further) (without_extra t.further) i))
