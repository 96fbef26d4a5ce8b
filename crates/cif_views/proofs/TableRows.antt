-- The rows of tables, as they are made field by field.
use Rattle.cif_views.proofs.Names.{Bool, Bor, Calls, Change, Changes, Column, ExtractLines, FieldPlace, IsTrue, JourneyKind, List, Numbered}
use Rattle.cif_views.proofs.Names.{Other, Public, ScheduleLines, Schedules, Stop, Table, [], and_parts, ap, append-nil}
use Rattle.cif_views.proofs.Names.{append_assoc, are_within, arith, at_drop_all, call_columns, call_fields}
use Rattle.cif_views.proofs.Names.{change_fields, column, columns_of, cond, drop, enumerate_from, false, fields_in, filter, flat_map}
use Rattle.cif_views.proofs.Names.{flat_map-append, get_or, inl, inr, is_call, is_change, is_within, journey_rows}
use Rattle.cif_views.proofs.Names.{kind_of_line, length, map, nat_tests, numbered_from, own_call_fields, refl, room_for, row_of}
use Rattle.cif_views.proofs.Names.{row_of_kind, row_values, rows_of, schedule_rows, slice_index_or, subst, suc, sym, table_rows, true, values_in}
use Rattle.cif_views.proofs.Names.{zero, ℕ, ◌++◌, ◌+◌, ◌<◌, ◌==◌, ◌∙◌, ◌∷◌, ◌≡◌, ◌≤◌, ◌⊎◌}
use Rattle.cif_views.proofs.RowNames.{Field, Format, Value, all_named, field_text, fields_text, number, some-field}
use Rattle.cif_views.proofs.Names.{decimal, names, take}
use Rattle.cif_views.specs.declared.columns.JourneyKind.TheVariants.{Origin, Terminus}

-- ---- the columns of a table

-- each is within a line, and its name is no longer than all
pub within-at : (given : List (Bor (List ℕ) × FieldPlace)) → IsTrue (are_within (columns_of given)) → (i : ℕ) (none : Bor (List ℕ) × FieldPlace) →
    i < length given → IsTrue (is_within (column (get_or given i none)).1)
within-at [] all i none below = absurd (omega (arith, below))
within-at (c ∷ given) all zero none below = (and_parts (is_within (column c).1) (are_within (columns_of given)) all).0
within-at (c ∷ given) all (suc i) none below =
    within-at given (and_parts (is_within (column c).1) (are_within (columns_of given)) all).1 i none (omega (arith, below))

pub name-at : (given : List (Bor (List ℕ) × FieldPlace)) (i : ℕ) (none : Bor (List ℕ) × FieldPlace) → i < length given →
    length (get_or given i none).0.now + 8 ≤ room_for (columns_of given)
name-at [] i none below = absurd (omega (arith, below))
name-at (c ∷ given) zero none below = omega arith
name-at (c ∷ given) (suc i) none below = let rest = name-at given i none (omega (arith, below)) in omega (arith, rest)

-- with the fields of the columns that are left, the text is whole, and no longer than it may be
pub record IsGrowing (format : Format) (kind : JourneyKind) (line whole : List ℕ) (most : ℕ) (row : List ℕ) (left : List Column)
    : Type 0 where
  pub text : row ++ fields_text format (fields_in kind left line) ≡ whole
  pub room : length row + room_for left ≤ most
  pub within : are_within left ≡ true

module _ (format : Format) (kind : JourneyKind) (line whole : List ℕ) (most : ℕ) (xs : List (Bor (List ℕ) × FieldPlace)) (i : ℕ) where
  -- no column is left
  pub all-columns : length xs ≤ i → (row : List ℕ) → IsGrowing format kind line whole most row (columns_of (drop i xs)) → row ≡ whole
  all-columns past row is =
      let end = subst (IsGrowing format kind line whole most row) (at_drop_all columns_of xs i past) is in sym (append-nil row) ∙ end.text

-- columns make some text
pub some-columns : (format : Format) (kind : JourneyKind) (given : List (Bor (List ℕ) × FieldPlace)) (line : List ℕ) → 0 < length given →
    0 < length (fields_text format (fields_in kind (columns_of given) line))
some-columns format kind [] line some = absurd (omega (arith, some))
some-columns format kind (c ∷ given) line some = some-field format _ (fields_in kind (columns_of given) line) refl

-- one field more
pub more-fields : (format : Format) (old mid new : List ℕ) (done : List Field) (f : Field) → mid ≡ old ++ fields_text format done →
    new ≡ mid ++ field_text format f → new ≡ old ++ fields_text format (done ++ (f ∷ []))
more-fields format old mid new done f before is =
    is ∙ ap (λ (l : List ℕ). l ++ field_text format f) before ∙ append_assoc old (fields_text format done) (field_text format f)
    ∙ ap (λ (l : List ℕ). old ++ (fields_text format done ++ l)) (sym (append-nil (field_text format f)))
    ∙ ap (λ (l : List ℕ). old ++ l) (sym (flat_map-append (field_text format) done (f ∷ [])))

pub first-field : (format : Format) (old new : List ℕ) (f : Field) → new ≡ old ++ field_text format f →
    new ≡ old ++ fields_text format (f ∷ [])
first-field format old new f is = is ∙ ap (λ (l : List ℕ). old ++ l) (sym (append-nil (field_text format f)))

-- the rows of a table of calls, of changes, of public calls and of schedules, schedule by schedule
pub listed-rows : (table : Table) (x : ExtractLines) →
    (table ≡ Schedules) ⊎ ((table ≡ Calls) ⊎ ((table ≡ Changes) ⊎ (table ≡ Public))) →
    flat_map (λ (s : ℕ × ScheduleLines). schedule_rows table s.0 s.1) (enumerate_from 1 x.schedules) ≡ table_rows table x
listed-rows table x (inl e) = rw e refl
listed-rows table x (inr (inl e)) = rw e refl
listed-rows table x (inr (inr (inl e))) = rw e refl
listed-rows table x (inr (inr (inr e))) = rw e refl

-- a text for each of the rows of items
pub flat-twice : {A B C : Type 0} (f : B → List C) (g : A → List B) (xs : List A) →
    flat_map f (flat_map g xs) ≡ flat_map (λ x. flat_map f (g x)) xs
flat-twice f g [] = refl
flat-twice f g (x ∷ xs) = flat_map-append f (g x) (flat_map g xs) ∙ ap (λ l. flat_map f (g x) ++ l) (flat-twice f g xs)

-- the rows of items that pass a test
passing : {A R : Type 0} (test : Bool) (row : A → R) (x : A) (xs : List A) (rest : List R) → map row xs ≡ rest →
    map row (cond test (x ∷ xs) xs) ≡ cond test (row x ∷ []) [] ++ rest
passing true row x xs rest is = ap (λ (l : List _). row x ∷ l) is
passing false row x xs rest is = is

pub filtered : {A R : Type 0} (test : A → Bool) (row : A → R) (xs : List A) →
    map row (filter test xs) ≡ flat_map (λ x. cond (test x) (row x ∷ []) []) xs
filtered test row [] = refl
filtered test row (x ∷ xs) = passing (test x) row x (filter test xs) _ (filtered test row xs)

-- the rows of a journey, line by line
pub calls-of_lines : (n : ℕ) (s : ScheduleLines) → journey_rows true n s.further ≡ schedule_rows Calls n s
calls-of_lines n s = sym (filtered (λ p. is_call (kind_of_line p.line)) (row_of call_fields) (numbered_from n 1 s.further))

pub changes-of_lines : (n : ℕ) (s : ScheduleLines) → journey_rows false n s.further ≡ schedule_rows Changes n s
changes-of_lines n s = sym (filtered (λ p. is_change (kind_of_line p.line)) (row_of change_fields) (numbered_from n 1 s.further))

-- there are lines, or there is none, by a test
pub some-lines : {A : Type 0} (lines : List A) (none : Bool) → none ≡ (length lines == 0) → none ≡ false → 0 < length lines
some-lines lines none is other = grind (arith, nat_tests, is, other)

pub no-lines : {A : Type 0} (lines : List A) (none : Bool) → none ≡ (length lines == 0) → none ≡ true → length lines ≡ 0
no-lines lines none is so = grind (arith, nat_tests, is, so)

-- the first line, and those behind it
pub first-and-rest : (lines : List (List ℕ)) (line : List ℕ) (rest : List (List ℕ)) → 0 < length lines →
    line ≡ slice_index_or lines 0 [] → rest ≡ drop 1 lines → lines ≡ line ∷ rest
first-and-rest [] line rest some is behind = absurd (omega (arith, some))
first-and-rest (l ∷ lines) line rest some is behind =
    ap (λ (a : List ℕ). a ∷ lines) (sym is) ∙ ap (λ (ls : List (List ℕ)). line ∷ ls) (sym behind)

-- the rows of the lines so far, and of those that are left, are all
module _ {R : Type 0} (rows : Numbered → List R) (schedule : ℕ) (whole : List R) where
  abbrev pub AreLeft : List R → ℕ → List (List ℕ) → Type 0
  AreLeft done call lines = done ++ flat_map rows (numbered_from schedule call lines) ≡ whole

  pub one-line : (done : List R) (call next : ℕ) (lines : List (List ℕ)) (line : List ℕ) (rest : List (List ℕ)) →
      lines ≡ line ∷ rest → next ≡ cond (is_call (kind_of_line line)) (call + 1) call → AreLeft done call lines →
      AreLeft (done ++ rows (record { schedule = schedule; call = call; line = line })) next rest
  one-line done call next lines line rest is after_line left =
      let here : Numbered = record { schedule = schedule; call = call; line = line } in
      ap (λ n. (done ++ rows here) ++ flat_map rows (numbered_from schedule n rest)) after_line
      ∙ append_assoc done (rows here)
      (flat_map rows (numbered_from schedule (cond (is_call (kind_of_line line)) (call + 1) call) rest))
      ∙ ap (λ ls. done ++ flat_map rows (numbered_from schedule call ls)) (sym is)
      ∙ left

  pub none-left : (done : List R) (call : ℕ) (lines : List (List ℕ)) → length lines ≡ 0 → AreLeft done call lines → done ≡ whole
  none-left done call [] none left = sym (append-nil done) ∙ left
  none-left done call (line ∷ lines) none left = absurd (omega (arith, none))

-- the number of the next call is no greater than that of the lines
pub next-call : (is : Bool) (call next count : ℕ) (lines rest : List (List ℕ)) (line : List ℕ) → lines ≡ line ∷ rest →
    next ≡ cond is (call + 1) call → call + length lines ≤ count → next + length rest ≤ count
next-call true call next count lines rest line is e few = let many = ap length is in omega (arith, many, e, few)
next-call false call next count lines rest line is e few = let many = ap length is in omega (arith, many, e, few)

-- the fields of a call behind its suffix, by the kind of its line
pub call-fields : (line : List ℕ) (kind : JourneyKind) → kind_of_line line ≡ kind →
    row_values own_call_fields line ≡ values_in kind (drop 3 call_columns) line
call-fields line Origin e = rw e refl
call-fields line Stop e = rw e refl
call-fields line Terminus e = rw e refl
call-fields line Change e = rw e refl
call-fields line Other e = rw e refl

-- the row of a line is that of the table
pub numbered-row : (calls : Bool) (p : Numbered) →
    row_of_kind calls (decimal p.schedule) p.call (kind_of_line p.line) p.line ≡ rows_of calls p
numbered-row true p =
    let kind = kind_of_line p.line in
    let first = values_in kind (take 3 call_columns) p.line in
    ap (λ (own : List Value). cond (is_call kind)
    (all_named (names call_fields) (number p.schedule ∷ number p.call ∷ (first ++ own)) ∷ []) []) (sym (call-fields p.line kind refl))
numbered-row false p = refl
