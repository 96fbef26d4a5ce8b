-- The detail that stands in a line, and the line that a detail has to itself.
use Rattle.cif_records.proofs.Names.{AllFit, AllStandIn, Basic, BasicTerms, Bool, C, Detail, FieldValue, IsLine, List, None, Option, Row}
use Rattle.cif_records.proofs.Names.{Some, SpellsTerms, StandsIn, Stp, [], alone_in, and_parts, ap, arith, basic_back, basic_front, columns}
use Rattle.cif_records.proofs.Names.{columns_in, detail_in, detail_rows, detail_table, ext_get_or, fits-front, flat_map-append, get_or}
use Rattle.cif_records.proofs.Names.{get_or-append-add, get_or_append_left, has_body, is_some, length, length-append, nat_le, nat_tests}
use Rattle.cif_records.proofs.Names.{one_table, plain_columns, plain_line, refl, replicate, row, spare, stands-append, stands-front, subst}
use Rattle.cif_records.proofs.Names.{sym, take, take-append_seam, text, text_of, true, width_of, ℕ, ◌&&◌, ◌++◌, ◌+◌, ◌-◌, ◌<◌, ◌∙◌, ◌∷◌}
use Rattle.cif_records.{proofs.Names.◌≡◌, proofs.Names.◌≤◌, proofs.Rows.◌&◌}
use Rattle.cif_columns.proofs.{ColumnReads.read, ColumnReads.width, Texts.is_text_of}
use Rattle.cif_columns.proofs.StoodValues as stood

-- a detail that stands in a line of its own fits its columns
pub detail_fits : (line : List ℕ) (d : Detail) → IsLine line → AllStandIn line (detail_table d) → AllFit (detail_rows (Some d))
detail_fits line d is_line stands =
    fits-front (detail_rows (Some d)) (row 79 80 spare ∷ []) (stood.fit line is_line (detail_table d) refl refl stands).1

-- the detail in columns 30 to 78 stands there
pub detail_stands : (line : List ℕ) → AllStandIn line (detail_rows (Some (detail_in line)))
detail_stands line =
    let it : (from to : ℕ) → StandsIn (columns from to line) (text (text_of (columns from to line))) =
    λ from to. is_text_of (columns from to line) in
    it 30 30 & it 31 32 & it 33 36 & it 37 40 & it 41 41 & it 42 49 & it 50 50 & it 51 53 & it 54 57 & it 58 60 & it 61 66
    & it 67 67 & it 68 68 & it 69 69 & it 70 70 & it 71 74 & it 75 78 & tt

-- the detail of its rows' values
abbrev detail_of : List (Option FieldValue) → Detail
detail_of vs = record {
  status = columns_in (get_or vs 0 None);
  category = columns_in (get_or vs 1 None);
  identity = columns_in (get_or vs 2 None);
  headcode = columns_in (get_or vs 3 None);
  course = columns_in (get_or vs 4 None);
  service_code = columns_in (get_or vs 5 None);
  sector = columns_in (get_or vs 6 None);
  power = columns_in (get_or vs 7 None);
  timing_load = columns_in (get_or vs 8 None);
  speed = columns_in (get_or vs 9 None);
  characteristics = columns_in (get_or vs 10 None);
  class = columns_in (get_or vs 11 None);
  sleepers = columns_in (get_or vs 12 None);
  reservations = columns_in (get_or vs 13 None);
  connection = columns_in (get_or vs 14 None);
  catering = columns_in (get_or vs 15 None);
  branding = columns_in (get_or vs 16 None);
}

-- one detail stands in a line at most
pub one_detail : (line : List ℕ) (x y : Detail) → AllStandIn line (detail_rows (Some x)) → AllStandIn line (detail_rows (Some y)) → x ≡ y
one_detail line x y p q = ap detail_of (one_table line (detail_rows (Some x)) (detail_rows (Some y)) refl p q)

-- the detail in a line of its own is the one that stands there
pub detail_in-stands : (line : List ℕ) (d : Detail) → AllStandIn line (detail_table d) → detail_in line ≡ d
detail_in-stands line d s =
    one_detail line (detail_in line) d (detail_stands line) (stands-front line (detail_rows (Some d)) (row 79 80 spare ∷ []) s.1)

-- rows of columns 30 to 78
abbrev are_within : List Row → Bool
are_within [] = true
are_within (r ∷ rows) = nat_le 30 r.from && nat_le r.from r.to && nat_le r.to 78 && are_within rows

at_most : (a b : ℕ) → nat_le a b ≡ true → a ≤ b
at_most a b h = grind (arith, nat_tests)

-- columns 30 to 78 of a line, between others
abbrev pub between : List ℕ → List ℕ → List ℕ → List ℕ
between before line after = before ++ (columns 30 78 line ++ after)

module _ (before line after : List ℕ) (wide : length line ≡ 80) (front : length before ≡ 29) (back : length after ≡ 2) where
  many : length (columns 30 78 line) ≡ 49
  many = width line 30 78 wide (omega arith) (omega arith) (omega arith)

  pub between_wide : length (between before line after) ≡ 80
  between_wide =
      omega (arith, many, front, back, length-append before (columns 30 78 line ++ after), length-append (columns 30 78 line) after)

  between_read : (j : ℕ) → j < 49 → get_or (between before line after) (29 + j) 0 ≡ get_or line (29 + j) 0
  between_read j lt =
      subst (λ n. get_or (between before line after) (n + j) 0 ≡ get_or (columns 30 78 line ++ after) j 0) front
      (get_or-append-add before (columns 30 78 line ++ after) j 0)
      ∙ get_or_append_left (columns 30 78 line) after 0 j (omega (arith, many, lt)) ∙ read line 30 78 j lt

  -- they are those of the line
  pub between_columns : (from to : ℕ) → 30 ≤ from → from ≤ to → to ≤ 78 → columns from to (between before line after) ≡ columns from to line
  between_columns from to start some within =
      let one = width (between before line after) from to between_wide (omega (arith, start)) some (omega (arith, within)) in
      let other = width line from to wide (omega (arith, start)) some (omega (arith, within)) in
      ext_get_or 0 (columns from to (between before line after)) (columns from to line) (one ∙ sym other) (λ k lt.
      let below : k < to - (from - 1) = omega (arith, one, lt, start) in
      let place : 29 + (from - 30 + k) ≡ from - 1 + k = omega (arith, start) in
      read (between before line after) from to k below
      ∙ subst (λ n. get_or (between before line after) n 0 ≡ get_or line n 0) place
      (between_read (from - 30 + k) (omega (arith, below, start, within)))
      ∙ sym (read line from to k below))

  -- and what stands in them stands there
  between_stands : (rows : List Row) → are_within rows ≡ true → AllStandIn line rows → AllStandIn (between before line after) rows
  between_stands [] within h = tt
  between_stands (r ∷ rows) within h =
      let rest = and_parts _ _ within in
      let last = and_parts _ _ rest.0 in
      let first = and_parts _ _ last.0 in
      let same = between_columns r.from r.to (at_most 30 r.from first.0) (at_most r.from r.to first.1) (at_most r.to 78 last.1) in
      (subst (λ c. StandsIn c r.value) (sym same) h.0, between_stands rows rest.1 h.1)

  pub detail_between : (d : Detail) → AllStandIn line (detail_rows (Some d)) → AllStandIn (between before line after) (detail_rows (Some d))
  detail_between d h = between_stands (detail_rows (Some d)) refl h

-- columns 30 to 78 with spaces elsewhere have their detail
pub detail_alone : (line alone : List ℕ) → alone ≡ alone_in line → length line ≡ 80 → detail_in alone ≡ detail_in line
detail_alone line alone is wide =
    let d = detail_in line in
    let rows = detail_between (replicate 29 32) line (replicate 2 32) wide refl refl d (detail_stands line) in
    ap detail_in is
    ∙ detail_in-stands (alone_in line) d (tt, stands-append (alone_in line) (detail_rows (Some d)) (row 79 80 spare ∷ []) rows (tt, tt))

-- columns 30 to 78 of the line that a detail has to itself are its plain columns
pub detail_columns : (d : Detail) (line : List ℕ) → length line ≡ 80 → line ≡ plain_line (detail_table d)
    → columns 30 78 line ≡ plain_line (detail_rows (Some d))
detail_columns d line wide is =
    let plain = plain_line (detail_rows (Some d)) in
    let back = row 79 80 spare ∷ [] in
    let parts : line ≡ replicate 29 32 ++ (plain ++ plain_line back) =
    is ∙ ap (λ l. replicate 29 32 ++ l) (flat_map-append (λ r. plain_columns (width_of r) r.value) (detail_rows (Some d)) back) in
    let many : length plain ≡ 49 = omega (arith, wide, ap length parts, length-append plain (plain_line back)) in
    ap (columns 30 78) parts ∙ subst (λ n. take n (plain ++ plain_line back) ≡ plain) many (take-append_seam plain (plain_line back))

-- the detail of a basic schedule with this letter
abbrev pub detail_by : Stp → List ℕ → Option Detail
detail_by C line = None
detail_by _ line = Some (detail_in line)

pub bodied_by : (letter : Stp) (line : List ℕ) → is_some (detail_by letter line) ≡ has_body letter
bodied_by C line = refl
bodied_by _ line = refl

pub no_detail : (line : List ℕ) → AllStandIn line (detail_rows None)
no_detail line = (tt, (tt, (tt, (tt, (tt, (tt, (tt, (tt, (tt, (tt, (tt, (tt, (tt, (tt, (tt, (tt, (tt, tt)))))))))))))))))

pub stands_by : (letter : Stp) (line : List ℕ) → AllStandIn line (detail_rows (detail_by letter line))
stands_by C line = no_detail line
stands_by _ line = detail_stands line

-- the basic schedule with these terms whose detail stands in a line
abbrev pub basic_with : BasicTerms → List ℕ → Basic
basic_with t line = record {
  uid = t.uid;
  first = t.first;
  last = t.last;
  days = t.days;
  letter = t.letter;
  detail = detail_by t.letter line;
  in_order = t.in_order;
  bodied = bodied_by t.letter line;
}

-- its rows stand in the line, if those before its detail and behind it do
pub stands_with : (line : List ℕ) (t : BasicTerms) (front : List Row) → AllStandIn line front → AllStandIn line (basic_back t.letter)
    → AllStandIn line (front ++ (detail_rows (detail_by t.letter line) ++ basic_back t.letter))
stands_with line t rows front back =
    stands-append line rows (detail_rows (detail_by t.letter line) ++ basic_back t.letter) front
    (stands-append line (detail_rows (detail_by t.letter line)) (basic_back t.letter) (stands_by t.letter line) back)

-- a line with these terms spells a basic schedule with them
pub terms_spell : (line : List ℕ) (t : BasicTerms) → AllStandIn line (basic_front t.uid t.first t.last t.days)
    → AllStandIn line (basic_back t.letter) → SpellsTerms line t
terms_spell line t front back = record {
  basic = basic_with t line;
  spells = stands_with line t (basic_front t.uid t.first t.last t.days) front back;
  terms = refl;
}
