-- Where no field of a pair has a row, what stands in the columns of all its fields is the same.
use Rattle.cif_views.proofs.Names.{AllStandIn, Bool, Column, FieldPlace, FieldValue, IsLine, IsTrue, JourneyKind, List, Row}
use Rattle.cif_views.proofs.Names.{StandsIn, TableFields, [], and_parts, ap, ap₂, arith, bytes_decides, codes, columns, cond}
use Rattle.cif_views.proofs.Names.{differing_row, differing_rows, drop, drop-drop, drop-take, eqb-true, false, false≢true, field_row}
use Rattle.cif_views.proofs.Names.{field_rows, get_or, if◌then◌else◌, leb-true, length, length-columns, length-take-le, map, nat_eq, nat_le}
use Rattle.cif_views.proofs.Names.{nat_lt, or_cases, pointwise, refl, replicate, row_values, span_in, spare, subst, sym, take, take-add}
use Rattle.cif_views.proofs.Names.{take-take, true, used, value_in, values_in, yymmdd_from, ℕ, ⊎_elim, ◌&&◌, ◌++◌, ◌+◌, ◌-◌, ◌||◌}
use Rattle.cif_views.proofs.Names.{◌∙◌, ◌∷◌, ◌≡◌, ◌≤◌}
use Rattle.cif_columns.proofs.KeptLines.{trimmed as widened, used_few}
use Rattle.cif_views.proofs.RowNames.{Value, cell_of, long_date, trimmed}
use Rattle.cif_views.specs.Steps.Columns.{shown_at}
use Rattle.cif_views.specs.declared.columns.FieldPlace.TheVariants as place

-- ---- rows

-- neither of two lists has an element
pub both-none : {A : Type 0} (xs ys : List A) → xs ++ ys ≡ [] → (xs ≡ []) × (ys ≡ [])
both-none [] ys none = (refl, none)
both-none (x ∷ xs) ys none = absurd (let long = ap length none in omega (arith, long))

first-none : {R : Type 0} (same : Bool) (a b : List ℕ) (row : R) (rest : List R) → pointwise nat_eq a b ≡ same →
    cond same [] (row ∷ []) ++ rest ≡ [] → (a ≡ b) × (rest ≡ [])
first-none true a b row rest is none = ((bytes_decides a b).0 is, none)
first-none false a b row rest is none = absurd (let long = ap length none in omega (arith, long))

module _ (start : List Value) where
  -- where no field has a row, the cells of all are the same
  pub same-cells : (left right : List ℕ) (fields : TableFields (List ℕ)) → differing_rows start fields left right ≡ [] →
      map cell_of (row_values fields left) ≡ map cell_of (row_values fields right)
  same-cells left right [] none = refl
  same-cells left right (f ∷ fields) none =
      let a = cell_of (f.1 left) in
      let b = cell_of (f.1 right) in
      let (same, others) = first-none (pointwise nat_eq a b) a b (differing_row start f.0 (f.1 left) (f.1 right))
      (differing_rows start fields left right) refl none in
      ap₂ (λ (c : List ℕ) (cs : List (List ℕ)). c ∷ cs) same (same-cells left right fields others)

  -- and the same of fields by their columns
  pub same-cells_in : (kind : JourneyKind) (left right : List ℕ) (own : List Column) → field_rows start kind left right own ≡ [] →
      map cell_of (values_in kind own left) ≡ map cell_of (values_in kind own right)
  unfolding field_row
  same-cells_in kind left right [] none = refl
  same-cells_in kind left right (c ∷ own) none =
      let one = value_in kind left c.1 in
      let other = value_in kind right c.1 in
      let (same, others) = first-none (pointwise nat_eq (cell_of one) (cell_of other)) (cell_of one) (cell_of other)
      (differing_row start c.0 one other) (field_rows start kind left right own) refl none in
      ap₂ (λ (a : List ℕ) (cells : List (List ℕ)). a ∷ cells) same (same-cells_in kind left right own others)

-- ---- columns

-- as many columns are the same where they are without the spaces at their end
same-columns : (a b : List ℕ) → length a ≡ length b → trimmed a ≡ trimmed b → a ≡ b
same-columns a b long same =
    let one = length-take-le (used a) a (used_few a) in
    let other = length-take-le (used b) b (used_few b) in
    let shown = ap length same in
    let rest : length a - used a ≡ length b - used b = omega (arith, long, one, other, shown) in
    sym (widened a) ∙ ap₂ (λ (c : List ℕ) n. c ++ replicate n 32) same rest ∙ widened b

-- six digits, at these places
abbrev digits_at : (a b c d e f : ℕ) → List ℕ → List ℕ
digits_at a b c d e f l = get_or l a 0 ∷ get_or l b 0 ∷ get_or l c 0 ∷ get_or l d 0 ∷ get_or l e 0 ∷ get_or l f 0 ∷ []

six-digits : (l : List ℕ) → length l ≡ 6 → digits_at 0 1 2 3 4 5 l ≡ l
six-digits [] long = absurd (omega (arith, long))
six-digits (a ∷ []) long = absurd (omega (arith, long))
six-digits (a ∷ b ∷ []) long = absurd (omega (arith, long))
six-digits (a ∷ b ∷ c ∷ []) long = absurd (omega (arith, long))
six-digits (a ∷ b ∷ c ∷ d ∷ []) long = absurd (omega (arith, long))
six-digits (a ∷ b ∷ c ∷ d ∷ e ∷ []) long = absurd (omega (arith, long))
six-digits (a ∷ b ∷ c ∷ d ∷ e ∷ f ∷ []) long = refl
six-digits (a ∷ b ∷ c ∷ d ∷ e ∷ f ∷ g ∷ l) long = absurd (omega (arith, long))

behind-century : (earlier : Bool) (rest : List ℕ) → drop 2 ((if earlier then codes "20" else codes "19") ++ rest) ≡ rest
behind-century true rest = refl
behind-century false rest = refl

-- a date has the digits of its columns
long-digits : (l : List ℕ) → digits_at 0 1 3 4 6 7 (drop 2 (long_date l)) ≡ digits_at 0 1 2 3 4 5 l
unfolding long_date
long-digits l = ap (digits_at 0 1 3 4 6 7) (behind-century (nat_lt (get_or l 0 0) 54) _)

same-date : (a b : List ℕ) → long_date a ≡ long_date b → digits_at 0 1 2 3 4 5 a ≡ digits_at 0 1 2 3 4 5 b
same-date a b same = sym (long-digits a) ∙ ap (λ (l : List ℕ). digits_at 0 1 3 4 6 7 (drop 2 l)) same ∙ long-digits b

-- a date has six columns
abbrev pub is_six : FieldPlace → ℕ → ℕ → Bool
is_six (place.Date _ _) from to = nat_eq to (from + 5)
is_six (place.DayFirst _ _) from to = nat_eq to (from + 5)
is_six _ from to = true

-- as many columns of a field are the same where they are shown as the same
same-shown : (at : FieldPlace) (from to : ℕ) (a b : List ℕ) → length a ≡ to + 1 - from → length b ≡ to + 1 - from →
    IsTrue (is_six at from to) → cell_of (shown_at at a) ≡ cell_of (shown_at at b) → a ≡ b
same-shown (place.Text _ _) from to a b p q six same = same-columns a b (p ∙ sym q) same
same-shown place.Nowhere from to a b p q six same = same-columns a b (p ∙ sym q) same
same-shown (place.Call _ _ _) from to a b p q six same = same-columns a b (p ∙ sym q) same
same-shown (place.Whole _ _) from to a b p q six same = same
same-shown (place.Date _ _) from to a b p q six same =
    let end = eqb-true to (from + 5) six in
    sym (six-digits a (omega (arith, p, end))) ∙ same-date a b same ∙ six-digits b (omega (arith, q, end))
same-shown (place.DayFirst _ _) from to a b p q six same =
    let end = eqb-true to (from + 5) six in
    sym (six-digits a (omega (arith, p, end)))
    ∙ ap (digits_at 4 5 2 3 0 1) (same-date (yymmdd_from a) (yymmdd_from b) same)
    ∙ six-digits b (omega (arith, q, end))

-- columns, and those behind them
two-parts : (from mid to : ℕ) (line : List ℕ) → 1 ≤ from → from ≤ mid → mid ≤ to →
    columns from to line ≡ columns from mid line ++ columns (mid + 1) to line
two-parts from mid to line one some more =
    let n : to - mid ≡ to - (mid + 1 - 1) = omega arith in
    let k : from - 1 + (mid - (from - 1)) ≡ mid + 1 - 1 = omega (arith, one, some) in
    ap (λ n. take n (drop (from - 1) line)) (omega (arith, one, some, more))
    ∙ take-add (mid - (from - 1)) (to - mid) (drop (from - 1) line)
    ∙ ap (λ (l : List ℕ). columns from mid line ++ take (to - mid) l) (drop-drop (mid - (from - 1)) (from - 1) line)
    ∙ (λ i. columns from mid line ++ take (n i) (drop (k i) line))

-- ---- all columns of a record are the same if those of fields are

-- fields that stand one behind another, from one column to another
abbrev pub is_run : JourneyKind → ℕ → ℕ → List Column → Bool
is_run kind from to [] = false
is_run kind from to (c ∷ own) =
    let span = span_in kind c.1 in
    is_six c.1 span.0 span.1
    && (nat_eq span.0 from && (nat_le from span.1 && (nat_le span.1 to && (nat_eq span.1 to || is_run kind (span.1 + 1) to own))))

-- these columns are those of fields
abbrev pub is_field : JourneyKind → ℕ → ℕ → List Column → Bool
is_field kind from to [] = false
is_field kind from to (c ∷ own) = is_run kind from to (c ∷ own) || is_field kind from to own

-- they are among the first of the line, or those of a field
abbrev pub is_among : ℕ → JourneyKind → List Column → ℕ → ℕ → Bool
is_among front kind own from to = (nat_le 1 from && (nat_le from to && nat_le to 80)) && (nat_le to front || is_field kind from to own)

abbrev pub is_there : JourneyKind → List Column → ℕ → ℕ → Bool
is_there kind own from to = is_among 0 kind own from to

-- all are, but for spare ones
abbrev pub if_used : FieldValue → Bool → Bool
if_used spare test = true
if_used _ test = test

abbrev pub are_covered : ℕ → JourneyKind → List Column → List Row → Bool
are_covered front kind own [] = true
are_covered front kind own (r ∷ rows) = if_used r.value (is_among front kind own r.from r.to) && are_covered front kind own rows

module _ (l m : List ℕ) where
  -- ---- what stands in one line stands in another with the same columns, but for spare ones

  abbrev pub AreSame : FieldValue → List ℕ → List ℕ → Type 0
  AreSame spare c d = Unit {0}
  AreSame _ c d = c ≡ d

  abbrev pub AllSame : List Row → Type 0
  AllSame [] = Unit {0}
  AllSame (r ∷ rows) = AreSame r.value (columns r.from r.to l) (columns r.from r.to m) × AllSame rows

  module _ (front : ℕ) (kind : JourneyKind) (first_are : take front l ≡ take front m) (left : IsLine l) (right : IsLine m) where
    among-first : (from to : ℕ) → 1 ≤ from → from ≤ to → to ≤ front → columns from to l ≡ columns from to m
    among-first from to one some few =
        let inside : (line : List ℕ) → take (to - (from - 1)) (drop (from - 1) (take front line)) ≡ columns from to line =
        λ line. ap (λ n. take (to - (from - 1)) (drop (from - 1) (take n line))) (omega (arith, one, some, few))
        ∙ ap (take (to - (from - 1))) (drop-take (from - 1) (front - (from - 1)) line)
        ∙ take-take (to - (from - 1)) (front - (from - 1)) (drop (from - 1) line) (omega (arith, one, some, few)) in
        sym (inside l) ∙ ap (λ (line : List ℕ). take (to - (from - 1)) (drop (from - 1) line)) first_are ∙ inside m

    -- fields whose cells are the same have the same columns
    of-run : (from to : ℕ) (own : List Column) → 1 ≤ from → to ≤ 80 →
        map cell_of (values_in kind own l) ≡ map cell_of (values_in kind own m) → IsTrue (is_run kind from to own) →
        columns from to l ≡ columns from to m
    of-run from to [] one end same is = absurd (false≢true is)
    of-run from to (c ∷ own) one end same is =
        let span = span_in kind c.1 in
        let (six, a) = and_parts (is_six c.1 span.0 span.1) _ is in
        let (begins, b) = and_parts (nat_eq span.0 from) _ a in
        let (filled, d) = and_parts (nat_le from span.1) _ b in
        let (within, ends) = and_parts (nat_le span.1 to) _ d in
        let begin = eqb-true span.0 from begins in
        let some = leb-true from span.1 filled in
        let upto = leb-true span.1 to within in
        let wide : (line : List ℕ) → IsLine line → length (columns span.0 span.1 line) ≡ span.1 + 1 - span.0 =
        λ line h. length-columns span.0 span.1 line h (omega (arith, one, begin)) (omega (arith, some, begin))
        (omega (arith, upto, end)) in
        let there = same-shown c.1 span.0 span.1 (columns span.0 span.1 l) (columns span.0 span.1 m) (wide l left) (wide m right) six
        (ap (λ (cells : List (List ℕ)). get_or cells 0 []) same) in
        let here : columns from span.1 l ≡ columns from span.1 m =
        subst (λ n. columns n span.1 l ≡ columns n span.1 m) begin there in
        ⊎_elim
        (λ last. subst (λ n. columns from n l ≡ columns from n m) (eqb-true span.1 to last) here)
        (λ more.
        two-parts from span.1 to l one some upto
        ∙ ap₂ (λ (c d : List ℕ). c ++ d) here (of-run (span.1 + 1) to own (omega arith) end (ap (drop 1) same) more)
        ∙ sym (two-parts from span.1 to m one some upto))
        (or_cases (nat_eq span.1 to) (is_run kind (span.1 + 1) to own) ends)

    of-field : (from to : ℕ) (own : List Column) → 1 ≤ from → to ≤ 80 →
        map cell_of (values_in kind own l) ≡ map cell_of (values_in kind own m) → IsTrue (is_field kind from to own) →
        columns from to l ≡ columns from to m
    of-field from to [] one end same is = absurd (false≢true is)
    of-field from to (c ∷ own) one end same is = ⊎_elim
        (λ run. of-run from to (c ∷ own) one end same run)
        (λ later. of-field from to own one end (ap (drop 1) same) later)
        (or_cases (is_run kind from to (c ∷ own)) (is_field kind from to own) is)

    pub covered : (from to : ℕ) (own : List Column) → IsTrue (is_among front kind own from to) →
        map cell_of (values_in kind own l) ≡ map cell_of (values_in kind own m) → columns from to l ≡ columns from to m
    covered from to own is same =
        let (within, there) = and_parts (nat_le 1 from && (nat_le from to && nat_le to 80)) _ is in
        let (a, more) = and_parts (nat_le 1 from) _ within in
        let (b, c) = and_parts (nat_le from to) (nat_le to 80) more in
        ⊎_elim
        (λ early. among-first from to (leb-true 1 from a) (leb-true from to b) (leb-true to front early))
        (λ field. of-field from to own (leb-true 1 from a) (leb-true to 80 c) same field)
        (or_cases (nat_le to front) (is_field kind from to own) there)

    used-same : (value : FieldValue) (c d : List ℕ) (test : Bool) → IsTrue (if_used value test) → (IsTrue test → c ≡ d) → AreSame value c d
    used-same spare c d test is same = tt
    used-same value c d test is same = same is

    pub all-covered : (own : List Column) (rows : List Row) → IsTrue (are_covered front kind own rows) →
        map cell_of (values_in kind own l) ≡ map cell_of (values_in kind own m) → AllSame rows
    all-covered own [] is same = tt
    all-covered own (r ∷ rows) is same =
        let (one, others) = and_parts _ (are_covered front kind own rows) is in (
          used-same r.value _ _ _ one (λ test. covered r.from r.to own test same),
          all-covered own rows others same,
        )

  moved : (value : FieldValue) (c d : List ℕ) → AreSame value c d → StandsIn d value → StandsIn c value
  moved spare c d same h = tt
  moved value c d same h = subst (λ e. StandsIn e value) (sym same) h

  pub all-moved : (rows : List Row) → AllSame rows → AllStandIn m rows → AllStandIn l rows
  all-moved [] same h = tt
  all-moved (r ∷ rows) same h = (moved r.value (columns r.from r.to l) (columns r.from r.to m) same.0 h.0, all-moved rows same.1 h.1)
