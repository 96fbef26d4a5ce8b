-- A line that passes a test spells each table that the test asks for, and is its plain line.
use Rattle.cif_columns.proofs.Names.{AllStandIn, FieldValue, IsLine, IsPlainLineOf, List, Passes, PlainTest, Row, [], activity_codes}
use Rattle.cif_columns.proofs.Names.{and_parts, ap, are, arith, asks, asks_all, asks_bytes, asks_clock, asks_left, asks_rows, asks_spaces}
use Rattle.cif_columns.proofs.Names.{codes, codes_in, columns, eqb-true, exactly, ext_get_or, false≢true, get_or, inl, inr, is_public_time}
use Rattle.cif_columns.proofs.Names.{is_whole_from, is_work_time, leb-true, left_justified, length, length-replicate, nat_eq, or_cases}
use Rattle.cif_columns.proofs.Names.{packed, public_time, read_off, read_value, refl, replicate, rules, spare, subst, sym, text}
use Rattle.cif_columns.proofs.Names.{text_from_reads, text_of, true, working_time, ℕ, ◌+◌, ◌-◌, ◌<◌, ◌∙◌, ◌∷◌, ◌≡◌, ◌≤◌, ◌⊎◌}
use Rattle.cif_columns.proofs.{Codes.stands-codes_in, ColumnReads.asked_at, ColumnReads.read, ColumnReads.width, PackedCodes.AreLeft}
use Rattle.cif_columns.proofs.{PackedCodes.left_same, Parts.whole-first, PlainColumns.whole-within, TestedTexts.text_part, Texts.is_text_of}
use Rattle.cif_columns.proofs.PlainColumns.{ArePlain, IsPlain, IsPlainActivities, IsPlainText, blank-spaces, plain-blank, plain_already}
use Rattle.cif_columns.proofs.TestedTimes.{InOrSpace, IsClockOrBlank, public_passes, work_passes}
use Rattle.cif_columns.proofs.Times.{five, four, public-stands, work-stands}
use Rattle.cif_columns.specs.{Field.StandsIn, PublicTime.StandsIn as PublicTimeStandsIn, WorkTime.StandsIn as WorkTimeStandsIn}

twelve : (xs : List ℕ) → length xs ≡ 12 → xs ≡ get_or xs 0 0 ∷ get_or xs 1 0 ∷ get_or xs 2 0 ∷ get_or xs 3 0 ∷ get_or xs 4 0
    ∷ get_or xs 5 0 ∷ get_or xs 6 0 ∷ get_or xs 7 0 ∷ get_or xs 8 0 ∷ get_or xs 9 0 ∷ get_or xs 10 0 ∷ get_or xs 11 0 ∷ []
twelve xs h = text_from_reads xs _ h (search rules)

-- the parts of two lists that are one
cons_parts : (p q : Row) (ps qs : List Row) → p ∷ ps ≡ q ∷ qs → (p ≡ q) × (ps ≡ qs)
cons_parts p q ps qs e = (cc, cc)

module _ (t : PlainTest) (line : List ℕ) (wide : length line ≡ 80) (fits : Passes t line) where
  -- ---- one column, counted from 0
  range_at : (j least most : ℕ) → j < 80 → get_or t.least j 0 ≡ least → get_or t.most j 0 ≡ most → get_or t.also j 0 ≡ 32
      → InOrSpace least most (get_or line j 0)
  range_at j least most lt a b c = at (fits.in_range j lt)
    where
      at : ((get_or t.least j 0 ≤ get_or line j 0) × (get_or line j 0 ≤ get_or t.most j 0)) ⊎ (get_or line j 0 ≡ get_or t.also j 0)
          → InOrSpace least most (get_or line j 0)
      at (inl h) = inl (omega (arith, a, h.0), omega (arith, b, h.1))
      at (inr e) = inr (e ∙ c)

  byte_at : (j byte : ℕ) → j < 80 → get_or t.least j 0 ≡ byte → get_or t.most j 0 ≡ byte → get_or t.also j 0 ≡ byte → get_or line j 0 ≡ byte
  byte_at j byte lt a b c = at (fits.in_range j lt)
    where
      at : ((get_or t.least j 0 ≤ get_or line j 0) × (get_or line j 0 ≤ get_or t.most j 0)) ⊎ (get_or line j 0 ≡ get_or t.also j 0)
          → get_or line j 0 ≡ byte
      at (inl h) = omega (arith, a, b, h.0, h.1)
      at (inr e) = e ∙ c

  next_at : (j i : ℕ) → j < 79 → j + 1 ≡ i → get_or t.next j 0 ≡ 32 → get_or line j 0 ≡ 32 → get_or line i 0 ≡ 32
  next_at j i lt place asks space = subst (λ n. get_or line n 0 ≡ 32) place (fits.followed j lt asks space)

  over_at : (j i : ℕ) → j < 64 → j + 2 ≡ i → get_or t.over j 0 ≡ 32 → get_or line j 0 ≡ 32 → get_or line i 0 ≡ 32
  over_at j i lt place asks space = subst (λ n. get_or line n 0 ≡ 32) place (fits.followed_over j lt asks space)

  back_at : (j i : ℕ) → j < 32 → j + 1 ≡ i → get_or t.back j 0 ≡ 32 → get_or line i 0 ≡ 32 → get_or line j 0 ≡ 32
  back_at j i lt place asks space = (fits.timed j lt).0 asks (ap (λ n. get_or line n 0) place ∙ space)

  hour_at : (j i : ℕ) → j < 32 → j + 1 ≡ i → get_or t.hour j 0 ≡ 50 → get_or line j 0 ≡ 50 → get_or line i 0 ≤ 51
  hour_at j i lt place asks two = subst (λ n. get_or line n 0 ≤ 51) place ((fits.timed j lt).1 asks two)

  -- ---- columns from and to
  pub bytes_part : (from to : ℕ) (value : List ℕ) → 1 ≤ from → from ≤ to → to ≤ 80 → length value ≡ to + 1 - from
      → asks_bytes t from to value ≡ true → columns from to line ≡ value
  bytes_part from to value start some within many asks =
      let p = and_parts _ _ asks in
      let q = and_parts _ _ p.0 in
      let long : length (columns from to line) ≡ to + 1 - from = width line from to wide start some within in
      ext_get_or 0 (columns from to line) value (long ∙ sym many) (λ k lt.
      let below : k < to - (from - 1) = omega (arith, long, lt) in
      read line from to k below
      ∙ byte_at (from - 1 + k) (get_or value k 0) (omega (arith, below)) (asked_at t.least from to value k q.0 below)
      (asked_at t.most from to value k q.1 below) (asked_at t.also from to value k p.1 below))

  clock_at : (from : ℕ) → 1 ≤ from → from ≤ 30 → asks_clock t from ≡ true
      → IsClockOrBlank (get_or line (from - 1 + 0) 0) (get_or line (from - 1 + 1) 0)
      (get_or line (from - 1 + 2) 0) (get_or line (from - 1 + 3) 0)
  clock_at from start within asks =
      let p5 = and_parts _ _ asks in
      let p4 = and_parts _ _ p5.0 in
      let p3 = and_parts _ _ p4.0 in
      let p2 = and_parts _ _ p3.0 in
      let p1 = and_parts _ _ p2.0 in
      let range : (k least most : ℕ) → k < 4 → get_or (codes "0000") k 0 ≡ least → get_or (codes "2959") k 0 ≡ most
      → get_or (codes "    ") k 0 ≡ 32 → InOrSpace least most (get_or line (from - 1 + k) 0) = λ k least most lt a b c.
      range_at (from - 1 + k) least most (omega arith) (asked_at t.least from (from + 3) (codes "0000") k p1.0 (omega arith) ∙ a)
      (asked_at t.most from (from + 3) (codes "2959") k p1.1 (omega arith) ∙ b)
      (asked_at t.also from (from + 3) (codes "    ") k p2.1 (omega arith) ∙ c) in
      let next : (k : ℕ) → k < 3 → get_or (codes "   ") k 0 ≡ 32 → get_or line (from - 1 + k) 0 ≡ 32
      → get_or line (from - 1 + (k + 1)) 0 ≡ 32 =
      λ k lt e. next_at (from - 1 + k) (from - 1 + (k + 1)) (omega arith) (omega arith)
      (asked_at t.next from (from + 2) (codes "   ") k p3.1 (omega arith) ∙ e) in
      let back : (k : ℕ) → k < 3 → get_or (codes "   ") k 0 ≡ 32 → get_or line (from - 1 + (k + 1)) 0 ≡ 32
      → get_or line (from - 1 + k) 0 ≡ 32 =
      λ k lt e. back_at (from - 1 + k) (from - 1 + (k + 1)) (omega arith) (omega arith)
      (asked_at t.back from (from + 2) (codes "   ") k p4.1 (omega arith) ∙ e) in
      record {
        tens = range 0 48 50 (omega arith) refl refl refl;
        ones = range 1 48 57 (omega arith) refl refl refl;
        minute_tens = range 2 48 53 (omega arith) refl refl refl;
        minute_ones = range 3 48 57 (omega arith) refl refl refl;
        on_b = next 0 (omega arith) refl;
        on_c = next 1 (omega arith) refl;
        on_d = next 2 (omega arith) refl;
        back_a = back 0 (omega arith) refl;
        back_b = back 1 (omega arith) refl;
        back_c = back 2 (omega arith) refl;
        late = hour_at (from - 1 + 0) (from - 1 + 1) (omega arith) (omega arith)
            (asked_at t.hour from from (codes "2") 0 p5.1 (omega arith));
      }

  -- the columns are spaces
  blank_part : (from to : ℕ) → 1 ≤ from → from ≤ to → to ≤ 80 → asks_spaces t from to ≡ true
      → columns from to line ≡ replicate (to + 1 - from) 32
  blank_part from to start some within h =
      bytes_part from to (replicate (to + 1 - from) 32) start some within (length-replicate (to + 1 - from) 32) h

  -- ---- the values
  activity_part : (from to : ℕ) → 1 ≤ from → to ≡ from + 11 → to ≤ 64 → are from to t.next (codes " ~ ~ ~ ~ ~ ~") ≡ true
      → are from to t.over (codes " ~ ~ ~ ~ ~~~") ≡ true → IsPlainActivities from to line
  activity_part from to start end within asks_next asks_over =
      let c = columns from to line in
      let long : length c ≡ 12 = omega (arith, width line from to wide start (omega arith) (omega arith)) in
      let here : (k : ℕ) → k < 12 → get_or c k 0 ≡ get_or line (from - 1 + k) 0 = λ k lt. read line from to k (omega arith) in
      let next : (k : ℕ) → k < 11 → get_or (codes " ~ ~ ~ ~ ~ ~") k 0 ≡ 32 → get_or c k 0 ≡ 32 → get_or c (k + 1) 0 ≡ 32 = λ k lt e space.
      here (k + 1) (omega arith) ∙ next_at (from - 1 + k) (from - 1 + (k + 1)) (omega arith) (omega arith)
      (asked_at t.next from to (codes " ~ ~ ~ ~ ~ ~") k asks_next (omega arith) ∙ e) (sym (here k (omega arith)) ∙ space) in
      let over : (k : ℕ) → k < 10 → get_or (codes " ~ ~ ~ ~ ~~~") k 0 ≡ 32 → get_or c k 0 ≡ 32 → get_or c (k + 2) 0 ≡ 32 = λ k lt e space.
      here (k + 2) (omega arith) ∙ over_at (from - 1 + k) (from - 1 + (k + 2)) (omega arith) (omega arith)
      (asked_at t.over from to (codes " ~ ~ ~ ~ ~~~") k asks_over (omega arith) ∙ e) (sym (here k (omega arith)) ∙ space) in
      let left : AreLeft (get_or c 0 0 ∷ get_or c 1 0 ∷ get_or c 2 0 ∷ get_or c 3 0 ∷ get_or c 4 0
      ∷ get_or c 5 0 ∷ get_or c 6 0 ∷ get_or c 7 0 ∷ get_or c 8 0 ∷ get_or c 9 0 ∷ get_or c 10 0 ∷ get_or c 11 0 ∷ []) = (
        next 0 (omega arith) refl,
        over 0 (omega arith) refl,
        (
          next 2 (omega arith) refl,
          over 2 (omega arith) refl,
          (
            next 4 (omega arith) refl,
            over 4 (omega arith) refl,
            (
              next 6 (omega arith) refl,
              over 6 (omega arith) refl,
              (next 8 (omega arith) refl, over 8 (omega arith) refl, (next 10 (omega arith) refl, (λ _. refl), tt)),
            ),
          ),
        ),
      ) in
      let same = left_same c 6 (omega (arith, long)) (subst AreLeft (sym (twelve c long)) left) in
      subst (λ n. left_justified n (packed (codes_in c)) ≡ c) long same

  public_part : (from to : ℕ) → 1 ≤ from → to ≡ from + 3 → to ≤ 33 → asks_clock t from ≡ true
      → PublicTimeStandsIn (columns from to line) (columns from to line)
  public_part from to start end within asks =
      let c = columns from to line in
      let long : length c ≡ 4 = omega (arith, width line from to wide start (omega arith) (omega arith)) in
      let here : (k : ℕ) → k < 4 → get_or line (from - 1 + k) 0 ≡ get_or c k 0 = λ k lt. sym (read line from to k (omega arith)) in
      let clock : IsClockOrBlank (get_or c 0 0) (get_or c 1 0) (get_or c 2 0) (get_or c 3 0) =
      rw (here 0 (omega arith), here 1 (omega arith), here 2 (omega arith), here 3 (omega arith)) at
      (clock_at from start (omega arith) asks) in
      let passes : is_public_time c ≡ true =
      subst (λ l. is_public_time l ≡ true) (sym (four c long)) (public_passes _ _ _ _ clock) in
      public-stands c long passes

  work_part : (from to : ℕ) → 1 ≤ from → to ≡ from + 4 → to ≤ 33 → asks_clock t from ≡ true
      → are (from + 3) (from + 3) t.next (codes " ") ≡ true
      → are to to t.least (codes "H") ≡ true → are to to t.most (codes "H") ≡ true → are to to t.also (codes " ") ≡ true
      → WorkTimeStandsIn (columns from to line) (columns from to line)
  work_part from to start end within asks then least most also =
      let c = columns from to line in
      let long : length c ≡ 5 = omega (arith, width line from to wide start (omega arith) (omega arith)) in
      let here : (k : ℕ) → k < 5 → get_or line (from - 1 + k) 0 ≡ get_or c k 0 = λ k lt. sym (read line from to k (omega arith)) in
      let clock : IsClockOrBlank (get_or c 0 0) (get_or c 1 0) (get_or c 2 0) (get_or c 3 0) =
      rw (here 0 (omega arith), here 1 (omega arith), here 2 (omega arith), here 3 (omega arith)) at
      (clock_at from start (omega arith) asks) in
      let place : to - 1 + 0 ≡ from - 1 + 4 = omega arith in
      let mark_at = range_at (to - 1 + 0) 72 72 (omega arith) (asked_at t.least to to (codes "H") 0 least (omega arith))
      (asked_at t.most to to (codes "H") 0 most (omega arith)) (asked_at t.also to to (codes " ") 0 also (omega arith)) in
      let mark : InOrSpace 72 72 (get_or c 4 0) =
      subst (InOrSpace 72 72) (ap (λ n. get_or line n 0) place ∙ here 4 (omega arith)) mark_at in
      let on : get_or c 3 0 ≡ 32 → get_or c 4 0 ≡ 32 = λ space.
      sym (here 4 (omega arith)) ∙ next_at (from + 3 - 1 + 0) (from - 1 + 4) (omega arith) (omega arith)
      (asked_at t.next (from + 3) (from + 3) (codes " ") 0 then (omega arith))
      (ap (λ n. get_or line n 0) (let z : from + 3 - 1 + 0 ≡ from - 1 + 3 = omega arith in z) ∙ here 3 (omega arith) ∙ space) in
      let passes : is_work_time c ≡ true =
      subst (λ l. is_work_time l ≡ true) (sym (five c long)) (work_passes _ _ _ _ _ clock mark on) in
      work-stands c long passes

  -- the text in these columns is at their left, or they are blank
  text_at : (from to : ℕ) → 1 ≤ from → from ≤ to → to ≤ 80 → (asks_left t from to ≡ true) ⊎ (asks_spaces t from to ≡ true)
      → IsPlainText from to line
  text_at from to start some within (inl left) = text_part t line wide fits from to start some within left
  text_at from to start some within (inr spaces) =
      let blank = blank_part from to start some within spaces in
      let c = columns from to line in
      let long : to + 1 - from ≡ length c = sym (width line from to wide start some within) in
      let same : replicate (length c) 32 ≡ c = ap (λ n. replicate n 32) (sym long) ∙ sym blank in
      ap (λ n. left_justified n (text_of c)) long ∙ plain-blank c (blank-spaces c same)

  -- a value of a row that the test asks for, with what stands in its columns
  value_there : (from to : ℕ) (value : FieldValue) → 1 ≤ from → from ≤ to → to ≤ 80 → asks t from to value ≡ true
      → StandsIn (columns from to line) (read_value (columns from to line) value)
      × IsPlain from to (read_value (columns from to line) value) line
  value_there from to (exactly value) start some within h =
      let a = and_parts (nat_eq (length value) (to + 1 - from)) (asks_bytes t from to value) h in
      (bytes_part from to value start some within (eqb-true (length value) (to + 1 - from) a.0) a.1, tt)
  value_there from to (text value) start some within h =
      (is_text_of (columns from to line), text_at from to start some within (or_cases _ _ h))
  value_there from to (activity_codes codes) start some within h =
      let a2 = and_parts _ _ h in
      let a1 = and_parts _ _ a2.0 in
      let a0 = and_parts _ _ a1.0 in
      let end = eqb-true to (from + 11) a0.0 in
      let long : length (columns from to line) ≡ 12 = omega (arith, end, width line from to wide start some within) in
      (stands-codes_in 6 (columns from to line) long, activity_part from to start end (leb-true to 64 a0.1) a1.1 a2.1)
  value_there from to (working_time time) start some within h =
      let a5 = and_parts _ _ h in
      let a4 = and_parts _ _ a5.0 in
      let a3 = and_parts _ _ a4.0 in
      let a2 = and_parts _ _ a3.0 in
      let a1 = and_parts _ _ a2.0 in
      let a0 = and_parts _ _ a1.0 in
      (work_part from to start (eqb-true to (from + 4) a0.0) (leb-true to 33 a0.1) a1.1 a2.1 a3.1 a4.1 a5.1, tt)
  value_there from to (public_time time) start some within h =
      let a1 = and_parts _ _ h in
      let a0 = and_parts _ _ a1.0 in
      (public_part from to start (eqb-true to (from + 3) a0.0) (leb-true to 33 a0.1) a1.1, tt)
  value_there from to spare start some within h = (tt, sym (blank_part from to start some within h))
  value_there from to _ start some within h = absurd (false≢true h)

  -- the rows of a table from this column on
  rows_there : (column : ℕ) (rows : List Row) → 1 ≤ column → is_whole_from column rows ≡ true → asks_rows t rows ≡ true
      → read_off line rows ≡ rows → AllStandIn line rows × ArePlain rows line
  rows_there column [] start whole h same = (tt, tt)
  rows_there column (r ∷ rows) start whole h same =
      let first = whole-first column r rows whole in
      let rest = whole-within (r.to + 1) rows first.2 in
      let a = and_parts _ _ h in
      let c = columns r.from r.to line in
      let parts = cons_parts _ _ _ _ same in
      let value : read_value c r.value ≡ r.value = ap (λ (q : Row). q.value) parts.0 in
      let here = value_there r.from r.to r.value (omega (arith, first.0)) first.1 (omega (arith, rest)) a.0 in
      let behind = rows_there (r.to + 1) rows (omega arith) first.2 a.1 parts.1 in (
        (subst (StandsIn c) value here.0, behind.0),
        (subst (λ v. IsPlain r.from r.to v line) value here.1, behind.1),
      )

-- a line that passes spells each whole table that the test asks for and that has the values that stand in the line, and is its plain line
pub plain_by_test : (t : PlainTest) (line : List ℕ) → IsLine line → Passes t line → (rows : List Row) → asks_all t rows ≡ true
    → read_off line rows ≡ rows → IsPlainLineOf rows line
plain_by_test t line is_line passes rows h same =
    let a = and_parts _ _ h in
    let there = rows_there t line is_line.width passes 1 rows (omega arith) a.0 a.1 same in
    (there.0, plain_already line is_line rows a.0 there.0 there.1)
