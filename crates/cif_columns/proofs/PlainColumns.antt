-- Columns that are filled as in a plain line, and that a line of such columns is the plain line of its table.
use Rattle.cif_columns.proofs.Names.{AllStandIn, Bool, FieldValue, IsLine, IsTrimmed, List, Row, [], activity_codes, ap, append-nil, arith}
use Rattle.cif_columns.proofs.Names.{codes_columns, codes_in, columns, date, drop, drop-drop, exactly, false, get_or, indicator, is_blank}
use Rattle.cif_columns.proofs.Names.{is_whole_from, left_justified, length, length-append, length-drop, length-replicate, nat_eq, nat_tests}
use Rattle.cif_columns.proofs.Names.{nil_from_length, plain_columns, plain_line, public_time, refl, replicate, spare, subst, suc, sym}
use Rattle.cif_columns.proofs.Names.{take-append-drop, text, text_of, true, weekdays, working_time, zero, ℕ, ◌&&◌, ◌++◌, ◌+◌, ◌-◌, ◌∙◌, ◌∷◌}
use Rattle.cif_columns.{proofs.Names.◌≡◌, proofs.Names.◌≤◌, proofs.Texts.is_text_of, proofs.Texts.trim-text, specs.Field.StandsIn}
use Rattle.cif_columns.proofs.{Codes.codes_in-stands, DayDigits.yymmdd_of-stands, Masks.days_columns-stands, Parts.whole-first}

-- blank columns are spaces
pub spaces-blank : (c : List ℕ) → is_blank c ≡ true → replicate (length c) 32 ≡ c
spaces-blank [] h = refl
spaces-blank (x ∷ c) h = at (nat_eq x 32) refl h (spaces-blank c)
  where
    at : (b : Bool) → nat_eq x 32 ≡ b → (b && is_blank c) ≡ true
        → (is_blank c ≡ true → replicate (length c) 32 ≡ c) → replicate (suc (length c)) 32 ≡ x ∷ c
    at true e rest behind =
        let space : x ≡ 32 = grind (arith, nat_tests) in
        let others = behind rest in
        cc
    at false e rest behind = cc

-- no text stands at either end of nothing
trimmed-nothing : IsTrimmed []
trimmed-nothing = record { start = λ e. cc; stop = λ e. cc }

-- blank columns are filled as the empty text is
pub plain-blank : (c : List ℕ) → is_blank c ≡ true → left_justified (length c) (text_of c) ≡ c
plain-blank c h =
    let spelled : c ≡ (replicate (length c) 32 ++ []) ++ [] =
    sym (append-nil (replicate (length c) 32 ++ []) ∙ append-nil (replicate (length c) 32) ∙ spaces-blank c h) in
    let nothing : text_of c ≡ [] =
    trim-text c [] (record { before = length c; after = 0; spelled = spelled; trimmed = trimmed-nothing }) in
    let all : length c - 0 ≡ length c = omega arith in
    ap (left_justified (length c)) nothing ∙ ap (λ n. replicate n 32) all ∙ spaces-blank c h

-- a text that the first column begins is at the left of its columns
pub plain-text : (c : List ℕ) → 1 ≤ length c → nat_eq (get_or c 0 0) 32 ≡ false → left_justified (length c) (text_of c) ≡ c
plain-text c some first = let s = is_text_of c in at s.before s.after (text_of c) s.spelled
  where
    at : (before after : ℕ) (t : List ℕ) → c ≡ replicate before 32 ++ t ++ replicate after 32 → left_justified (length c) t ≡ c
    at zero after t e =
        let long : length c ≡ length t + after =
        ap length e ∙ length-append t (replicate after 32) ∙ ap (λ n. length t + n) (length-replicate {A = ℕ} after 32) in
        let rest : length c - length t ≡ after = omega arith in
        ap (λ n. t ++ replicate n 32) rest ∙ sym e
    at (suc before) after t e = absurd (clash (ap (λ l. get_or l 0 0) e))
      where
        clash : get_or c 0 0 ≡ 32 → ⊥
        clash space = grind (arith, nat_tests)

all_blank : (n : ℕ) → is_blank (replicate n 32) ≡ true
all_blank zero = refl
all_blank (suc n) = all_blank n

-- spaces are blank
pub blank-spaces : (c : List ℕ) → replicate (length c) 32 ≡ c → is_blank c ≡ true
blank-spaces c e = subst (λ l. is_blank l ≡ true) e (all_blank (length c))

-- the text in these columns is at their left
abbrev pub IsPlainText : ℕ → ℕ → List ℕ → Type 0
IsPlainText from to line = left_justified (to + 1 - from) (text_of (columns from to line)) ≡ columns from to line

-- the activity codes in these columns are packed to the left
abbrev pub IsPlainActivities : ℕ → ℕ → List ℕ → Type 0
IsPlainActivities from to line = codes_columns (codes_in (columns from to line)) ≡ columns from to line

-- these columns are spaces
abbrev pub IsPlainSpare : ℕ → ℕ → List ℕ → Type 0
IsPlainSpare from to line = replicate (to + 1 - from) 32 ≡ columns from to line

-- columns with a value of this kind are filled as in a plain line
abbrev pub IsPlain : ℕ → ℕ → FieldValue → List ℕ → Type 0
IsPlain from to (text value) line = IsPlainText from to line
IsPlain from to (activity_codes codes) line = IsPlainActivities from to line
IsPlain from to spare line = IsPlainSpare from to line
IsPlain from to _ line = Unit {0}

-- and those of a table
abbrev pub ArePlain : List Row → List ℕ → Type 0
ArePlain [] line = Unit {0}
ArePlain (r ∷ rows) line = IsPlain r.from r.to r.value line × ArePlain rows line

-- columns of a line, from one to another
module _ (line : List ℕ) (is_line : IsLine line) (from to : ℕ) (start : 1 ≤ from) (some : from ≤ to) (within : to ≤ 80) where
  -- a value that stands in columns which are filled as in a plain line
  plain_value : (value : FieldValue) → StandsIn (columns from to line) value → IsPlain from to value line
      → plain_columns (to + 1 - from) value ≡ columns from to line
  plain_value (exactly value) s h = sym s
  plain_value (text value) s h = ap (left_justified (to + 1 - from)) (sym (trim-text (columns from to line) value s)) ∙ h
  plain_value (activity_codes codes) s h = ap codes_columns (sym (codes_in-stands (columns from to line) codes s)) ∙ h
  plain_value (working_time time) s h = sym s.same
  plain_value (public_time time) s h = sym s.same
  plain_value (date day) s h = sym (yymmdd_of-stands (columns from to line) day s)
  plain_value (weekdays days) s h = sym (days_columns-stands (columns from to line) days s)
  plain_value (indicator stp) s h = sym s
  plain_value spare s h = h

  -- the columns and what is behind them
  columns_onto : columns from to line ++ drop (to + 1 - 1) line ≡ drop (from - 1) line
  columns_onto =
      let upto : to + 1 - 1 ≡ from - 1 + (to - (from - 1)) = omega arith in
      ap (λ n. columns from to line ++ drop n line) upto
      ∙ ap (λ l. columns from to line ++ l) (sym (drop-drop (to - (from - 1)) (from - 1) line))
      ∙ take-append-drop (to - (from - 1)) (drop (from - 1) line)

-- a table that is whole ends at column 80
pub whole-within : (column : ℕ) (rows : List Row) → is_whole_from column rows ≡ true → column ≤ 81
whole-within column [] whole = grind (arith, nat_tests)
whole-within column (r ∷ rows) whole =
    let first = whole-first column r rows whole in
    let rest = whole-within (r.to + 1) rows first.2 in
    omega (arith, first.0, first.1)

plain_behind : (line : List ℕ) → IsLine line → (column : ℕ) (rows : List Row) → 1 ≤ column → is_whole_from column rows ≡ true
    → AllStandIn line rows → ArePlain rows line → plain_line rows ≡ drop (column - 1) line
plain_behind line is_line column [] start whole s h =
    let wide = is_line.width in
    let over : column ≡ 81 = grind (arith, nat_tests) in
    let none : length (drop (column - 1) line) ≡ 0 = omega (arith, length-drop (column - 1) line) in
    sym (nil_from_length (drop (column - 1) line) none)
plain_behind line is_line column (r ∷ rows) start whole s h =
    let first = whole-first column r rows whole in
    let from = first.0 in
    let some = first.1 in
    let begin : 1 ≤ r.from = omega arith in
    let rest = whole-within (r.to + 1) rows first.2 in
    let within : r.to ≤ 80 = omega arith in
    let here = plain_value line is_line r.from r.to begin some within r.value s.0 h.0 in
    let behind = plain_behind line is_line (r.to + 1) rows (omega arith) first.2 s.1 h.1 in
    ap (λ l. l ++ plain_line rows) here
    ∙ ap (λ l. columns r.from r.to line ++ l) behind
    ∙ columns_onto line is_line r.from r.to begin some within
    ∙ ap (λ n. drop (n - 1) line) from

-- a line that spells a table and fills the columns that can be filled otherwise as a plain line does is the table's plain line
pub plain_already : (line : List ℕ) → IsLine line → (rows : List Row) → is_whole_from 1 rows ≡ true → AllStandIn line rows
    → ArePlain rows line → plain_line rows ≡ line
plain_already line is_line rows whole s h = plain_behind line is_line 1 rows (omega arith) whole s h
