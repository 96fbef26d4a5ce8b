-- The text of rows tells their cells, and these tell the plain lines.
use Rattle.cif_views.proofs.Names.{All, All-cons, All-drop, All-head, All-nil, All-tail, All-take, AllFit, ArePrintable, Bool, Column}
use Rattle.cif_views.proofs.Names.{FieldPlace, IsLine, IsPrintable, IsTrue, JourneyKind, List, Other, Row, TableFields, [], and_parts}
use Rattle.cif_views.proofs.Names.{ap, append_assoc, ap₂, are_within, arith, bytes_decides, columns, decimal, decimal_is_IsNumeral}
use Rattle.cif_views.proofs.Names.{drop, drop_at, eqb-true, false, false≢true, flat_map, is_span, is_whole_from, is_within}
use Rattle.cif_views.proofs.Names.{leb-true, length, length-append, length-columns, length-map, line-plain_line, map, names, nat_eq, nat_le}
use Rattle.cif_views.proofs.Names.{or_cases, plain_columns, plain_line, pointwise, refl, row_of, row_values, span_in, subst, suc, sym, take}
use Rattle.cif_views.proofs.Names.{take-append_seam, true, used, value_in, values_in, width_of, yymmdd_from, zero, ℕ, ⊎_elim, ◌&&◌, ◌++◌, ◌+◌, ◌-◌}
use Rattle.cif_views.proofs.Names.{◌<◌, ◌^◌, ◌||◌, ◌∙◌, ◌∷◌, ◌≡◌, ◌≢◌}
use Rattle.std.{proofs.lemmas.Str.Parse.digit_from_value, specs.Str.Parse.AllDigits}
use Rattle.cif_columns.proofs.Parts.{length-plain_columns, whole-first}
use Rattle.cif_rows.proofs.RowTexts.{AreSaid, IsSaidField, cell_in, first-row, row-filled}
use Rattle.cif_rows.specs.Row.{IsDigit, IsSaid}
use Rattle.cif_views.proofs.RowNames.{Field, Format, Text, Value, cell_of, named, number, printable-date, row_text}
use Rattle.cif_views.{proofs.DifferingCells.covered, proofs.DifferingCells.is_among, specs.Steps.Columns.shown_at}
use Rattle.cif_views.specs.declared.columns.FieldPlace.TheVariants as place

-- ---- rows

-- what stands in a row, and the cells of a row
abbrev pub AreValues : List Value → Type 0
AreValues values = All IsSaid values

abbrev pub cells_of : {Row : Type 0} → TableFields Row → Row → List (List ℕ)
cells_of fields row = map cell_of (row_values fields row)

module _ {Row : Type 0} (r : Row) where
  said-row : (fields : TableFields Row) → AreValues (row_values fields r) → AreSaid (row_of fields r)
  said-row [] all = All-nil IsSaidField
  said-row (f ∷ fields) all =
      All-cons IsSaidField (named f.0 (f.1 r)) (row_of fields r) (All-head IsSaid (f.1 r) (row_values fields r) all)
      (said-row fields (All-tail IsSaid (f.1 r) (row_values fields r) all))

  cells-row : (fields : TableFields Row) → map cell_in (row_of fields r) ≡ cells_of fields r
  cells-row [] = refl
  cells-row (f ∷ fields) = ap (λ (cells : List (List ℕ)). cell_of (f.1 r) ∷ cells) (cells-row fields)

  names-row : (fields : TableFields Row) → map (λ f. f.name) (row_of fields r) ≡ names fields
  names-row [] = refl
  names-row (f ∷ fields) = ap (λ (ns : List (List ℕ)). f.0 ∷ ns) (names-row fields)

-- a row is some text
filled : (format : Format) (row : List Field) (s : List ℕ) → 0 < length (row_text format row ++ s)
filled format row s =
    let long = length-append (row_text format row) s in
    let some = row-filled format row in
    omega (arith, long, some)

-- where rows are the same if their cells are, they are if their texts are
module _ (format : Format) (not : format ≢ Text) {Row : Type 0} (fields : TableFields Row) (Is : Row → Type 0) (some : 0 < length fields)
    (are : (r : Row) → Is r → AreValues (row_values fields r))
    (same : (r q : Row) → Is r → Is q → cells_of fields r ≡ cells_of fields q → r ≡ q) where
  first-row_of : (r q : Row) (s t : List ℕ) → Is r → Is q → row_text format (row_of fields r) ++ s ≡ row_text format (row_of fields q) ++ t →
      (r ≡ q) × (s ≡ t)
  first-row_of r q s t one other is =
      let long = length-map fields (λ f. named f.0 (f.1 r)) in
      let here = first-row format not (row_of fields r) (row_of fields q) s t (names-row r fields ∙ sym (names-row q fields))
      (said-row r fields (are r one)) (said-row q fields (are q other)) (omega (arith, long, some)) is in
      (same r q one other (sym (cells-row r fields) ∙ here.0 ∙ cells-row q fields), here.1)

  pub same-row : (r q : Row) → Is r → Is q → flat_map (row_text format) (row_of fields r ∷ []) ≡ flat_map (row_text format) (row_of fields q ∷ []) →
      r ≡ q
  same-row r q one other is = (first-row_of r q [] [] one other is).0

  pub same-rows : (rs qs : List Row) → All Is rs → All Is qs →
      flat_map (row_text format) (map (row_of fields) rs) ≡ flat_map (row_text format) (map (row_of fields) qs) → rs ≡ qs
  same-rows [] [] one other is = refl
  same-rows [] (q ∷ qs) one other is =
      let long = ap length is in
      let more = filled format (row_of fields q) (flat_map (row_text format) (map (row_of fields) qs)) in absurd (omega (arith, long, more))
  same-rows (r ∷ rs) [] one other is =
      let long = ap length is in
      let more = filled format (row_of fields r) (flat_map (row_text format) (map (row_of fields) rs)) in absurd (omega (arith, long, more))
  same-rows (r ∷ rs) (q ∷ qs) one other is =
      let here = first-row_of r q (flat_map (row_text format) (map (row_of fields) rs)) (flat_map (row_text format) (map (row_of fields) qs))
      (All-head Is r rs one) (All-head Is q qs other) is in
      (λ i. here.0 i ∷ same-rows rs qs (All-tail Is r rs one) (All-tail Is q qs other) here.1 i)

-- ---- what stands in a line makes cells

columns-printable : (from to : ℕ) (line : List ℕ) → IsLine line → ArePrintable (columns from to line)
columns-printable from to line is =
    All-take IsPrintable (to - (from - 1)) (drop (from - 1) line) (All-drop IsPrintable (from - 1) line is.printable)

-- six columns, the year first
year-first : (there : List ℕ) → length there ≡ 6 → ArePrintable there → ArePrintable (yymmdd_from there)
year-first there six all zero d below = all 4 0 (omega (arith, six))
year-first there six all (suc zero) d below = all 5 0 (omega (arith, six))
year-first there six all (suc (suc zero)) d below = all 2 0 (omega (arith, six))
year-first there six all (suc (suc (suc zero))) d below = all 3 0 (omega (arith, six))
year-first there six all (suc (suc (suc (suc zero)))) d below = all 0 0 (omega (arith, six))
year-first there six all (suc (suc (suc (suc (suc zero))))) d below = all 1 0 (omega (arith, six))
year-first there six all (suc (suc (suc (suc (suc (suc k)))))) d below = absurd (omega (arith, below))

module _ (line : List ℕ) (is : IsLine line) where
  -- a date has six columns
  six-columns : (from to : ℕ) → IsTrue (is_span (from, to) && nat_eq to (from + 5)) → length (columns from to line) ≡ 6
  six-columns from to within =
      let (span, six) = and_parts (is_span (from, to)) _ within in
      let (begin, more) = and_parts (nat_le 1 from) _ span in
      let (_, end) = and_parts (nat_le from (to + 1)) (nat_le to 80) more in
      let last = eqb-true to (from + 5) six in
      length-columns from to line is (leb-true 1 from begin) (omega (arith, last)) (leb-true to 80 end) ∙ omega (arith, last)

  cell : (kind : JourneyKind) (at : FieldPlace) → IsTrue (is_within at) → (there : List ℕ) →
      there ≡ columns (span_in kind at).0 (span_in kind at).1 line → ArePrintable there → IsSaid (shown_at at there)
  cell kind (place.Text _ _) within there e all = All-take IsPrintable (used there) there all
  cell kind place.Nowhere within there e all = All-take IsPrintable (used there) there all
  cell kind (place.Call _ _ _) within there e all = All-take IsPrintable (used there) there all
  cell kind (place.Whole _ _) within there e all = all
  cell kind (place.Date from to) within there e all = printable-date there (ap length e ∙ six-columns from to within) all
  cell kind (place.DayFirst from to) within there e all =
      printable-date (yymmdd_from there) refl (year-first there (ap length e ∙ six-columns from to within) all)

  pub are-values : (kind : JourneyKind) (own : List Column) → IsTrue (are_within own) → AreValues (values_in kind own line)
  are-values kind [] within = All-nil IsSaid
  are-values kind (c ∷ own) within =
      let (first, rest) = and_parts (is_within c.1) (are_within own) within in
      let span = span_in kind c.1 in
      All-cons IsSaid (value_in kind line c.1) (values_in kind own line)
      (cell kind c.1 first (columns span.0 span.1 line) refl (columns-printable span.0 span.1 line is)) (are-values kind own rest)

-- so does a number
digits-said : (ds : List ℕ) → AllDigits 10 ds → All IsDigit ds
digits-said [] all = All-nil IsDigit
digits-said (d ∷ ds) all =
    let digit = digit_from_value d all.0 in
    All-cons IsDigit d ds (omega (arith, digit), omega (arith, digit)) (digits-said ds all.1)

pub number-said : (n : ℕ) → n < 2 ^ 64 → IsSaid (number n)
number-said n few = digits-said (decimal n) (decimal_is_IsNumeral n few).0.1

-- ---- cells tell plain lines

-- the cells of a line's fields
abbrev pub cells_in : List Column → List ℕ → List (List ℕ)
cells_in own line = map cell_of (values_in Other own line)

-- in each row's columns of the line stand the plain columns of its value
abbrev AllPlain : List ℕ → List Row → Type 0
AllPlain line [] = Unit {0}
AllPlain line (r ∷ rows) = (columns r.from r.to line ≡ plain_columns (width_of r) r.value) × AllPlain line rows

plain-behind : (front : List ℕ) (rows : List Row) → is_whole_from (length front + 1) rows ≡ true → AllFit rows →
    AllPlain (front ++ plain_line rows) rows
plain-behind front [] whole fits = tt
plain-behind front (r ∷ rows) whole fits =
    let first = whole-first (length front + 1) r rows whole in
    let part = plain_columns (width_of r) r.value in
    let rest = plain_line rows in
    let wide = length-plain_columns (width_of r) r.value fits.0 in
    let start : length front ≡ r.from - 1 = omega (arith, first.0) in
    let width : r.to - (r.from - 1) ≡ length part = omega (arith, first.0, first.1, wide) in
    let next : length (front ++ part) + 1 ≡ r.to + 1 = omega (arith, first.0, first.1, wide, length-append front part) in (
      ap (take (r.to - (r.from - 1))) (drop_at front (part ++ rest) (r.from - 1) start) ∙ ap (λ n. take n (part ++ rest)) width
          ∙ take-append_seam part rest,
      subst (λ line. AllPlain line rows) (append_assoc front part rest)
          (plain-behind (front ++ part) rows (ap (λ c. is_whole_from c rows) next ∙ first.2) fits.1),
    )

-- two tables have rows in the same columns, and in each a field shows what stands there, or the same stands in both
abbrev pub are_alike : List Column → List Row → List Row → Bool
are_alike own [] [] = true
are_alike own [] (q ∷ qs) = false
are_alike own (r ∷ rows) [] = false
are_alike own (r ∷ rows) (q ∷ qs) =
    nat_eq r.from q.from
    && (nat_eq r.to q.to
    && ((is_among 0 Other own r.from r.to
    || pointwise nat_eq (plain_columns (width_of r) r.value) (plain_columns (width_of q) q.value)) && are_alike own rows qs))

module _ (l m : List ℕ) (left : IsLine l) (right : IsLine m) (own : List Column)
    (same : cells_in own l ≡ cells_in own m) where
  same-values : (rows qs : List Row) → IsTrue (are_alike own rows qs) → AllPlain l rows → AllPlain m qs → plain_line rows ≡ plain_line qs
  same-values [] [] alike one other = refl
  same-values [] (q ∷ qs) alike one other = absurd (false≢true alike)
  same-values (r ∷ rows) [] alike one other = absurd (false≢true alike)
  same-values (r ∷ rows) (q ∷ qs) alike one other =
      let (from, a) = and_parts (nat_eq r.from q.from) _ alike in
      let (to, b) = and_parts (nat_eq r.to q.to) _ a in
      let (there, rest) = and_parts _ (are_alike own rows qs) b in
      let begin = eqb-true r.from q.from from in
      let end = eqb-true r.to q.to to in
      let here : plain_columns (width_of r) r.value ≡ plain_columns (width_of q) q.value = ⊎_elim
      (λ among. sym one.0 ∙ covered l m 0 Other refl left right r.from r.to own among same ∙ (λ i. columns (begin i) (end i) m) ∙ other.0)
      (λ equal. (bytes_decides _ _).0 equal)
      (or_cases (is_among 0 Other own r.from r.to) _ there) in
      ap₂ (λ (c d : List ℕ). c ++ d) here (same-values rows qs rest one.1 other.1)

-- a line is the plain line of a record of a kind, whose values fit
pub record IsPlain {X : Type 0} (table : X → List Row) (line : List ℕ) : Type 0 where
  pub it : X
  pub fits : AllFit (table it)
  pub is : line ≡ plain_line (table it)

-- two lines of one kind are the same where the cells of their rows are
module _ {X : Type 0} (table : X → List Row) (own : List Column) (whole : (x : X) → is_whole_from 1 (table x) ≡ true)
    (alike : (x y : X) → IsTrue (are_alike own (table x) (table y))) where
  pub is-line : (line : List ℕ) → IsPlain table line → IsLine line
  is-line line p = subst IsLine (sym p.is) (line-plain_line (table p.it) (whole p.it) p.fits)

  all-plain : (line : List ℕ) (p : IsPlain table line) → AllPlain line (table p.it)
  all-plain line p = subst (λ l. AllPlain l (table p.it)) (sym p.is) (plain-behind [] (table p.it) (whole p.it) p.fits)

  pub one-line : (l m : List ℕ) → IsPlain table l → IsPlain table m → cells_in own l ≡ cells_in own m → l ≡ m
  one-line l m p q same =
      p.is
      ∙ same-values l m (is-line l p) (is-line m q) own same (table p.it) (table q.it) (alike p.it q.it) (all-plain l p) (all-plain m q)
      ∙ sym q.is

  -- so they are where their rows are, in a table whose fields have these columns
  module _ (format : Format) (not : format ≢ Text) (fields : TableFields (List ℕ))
      (values : (line : List ℕ) → row_values fields line ≡ values_in Other own line)
      (within : IsTrue (are_within own)) (some : 0 < length fields) where
    plain-values : (line : List ℕ) → IsPlain table line → AreValues (row_values fields line)
    plain-values line p = subst AreValues (sym (values line)) (are-values line (is-line line p) Other own within)

    one-plain : (l m : List ℕ) → IsPlain table l → IsPlain table m → cells_of fields l ≡ cells_of fields m → l ≡ m
    one-plain l m p q same =
        one-line l m p q (ap (map cell_of) (sym (values l)) ∙ same ∙ ap (map cell_of) (values m))

    pub same-plain_row : (l m : List ℕ) → IsPlain table l → IsPlain table m →
        flat_map (row_text format) (row_of fields l ∷ []) ≡ flat_map (row_text format) (row_of fields m ∷ []) → l ≡ m
    same-plain_row = same-row format not fields (IsPlain table) some plain-values one-plain

    pub same-plain_rows : (ls ms : List (List ℕ)) → All (IsPlain table) ls → All (IsPlain table) ms →
        flat_map (row_text format) (map (row_of fields) ls) ≡ flat_map (row_text format) (map (row_of fields) ms) → ls ≡ ms
    same-plain_rows = same-rows format not fields (IsPlain table) some plain-values one-plain
