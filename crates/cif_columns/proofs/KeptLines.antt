-- Lines without the spaces at their ends are what is kept of them, and determine them.
use Rattle.cif_columns.proofs.Names.{All, All-append, All-cons, All-drop, All-head, All-nil, All-tail, All-take, All-weaker, AreKept}
use Rattle.cif_columns.proofs.Names.{ArePrintable, Bool, IsLine, IsPrintable, List, [], ap, append-nil, append_assoc, arith, cond, drop}
use Rattle.cif_columns.proofs.Names.{drop_at, drop_more, eqb-true, false, first_lines_in, flat_map-append, get_or, is_space, kept_text}
use Rattle.cif_columns.proofs.Names.{left_justified, length, length-append, length-drop, length-take-le, lines_in, max, refl, replicate}
use Rattle.cif_columns.proofs.Names.{subst, suc, sym, take, take-append-add, take-take, take_at, take_more, true, used, used_with, wide}
use Rattle.cif_columns.proofs.Names.{zero, ℕ, ◌++◌, ◌+◌, ◌-◌, ◌<◌, ◌∙◌, ◌∷◌, ◌≡◌, ◌≤◌}
use Rattle.cif_columns.specs.Lines.{kept}

some_used : (space : Bool) (count : ℕ) → used_with space (suc count) ≡ suc (suc count)
some_used true count = refl
some_used false count = refl

-- one more column
used_push : (columns : List ℕ) (b : ℕ) (space : Bool) → is_space b ≡ space
    → used (columns ++ b ∷ []) ≡ cond space (used columns) (suc (length columns))
used_push [] b true e = ap (λ s. used_with s 0) e
used_push [] b false e = ap (λ s. used_with s 0) e
used_push (c ∷ columns) b true e = ap (used_with (is_space c)) (used_push columns b true e)
used_push (c ∷ columns) b false e = ap (used_with (is_space c)) (used_push columns b false e) ∙ some_used (is_space c) (length columns)

pub used_few : (columns : List ℕ) → used columns ≤ length columns
used_few [] = omega arith
used_few (b ∷ columns) = at (is_space b) (used columns) (used_few columns)
  where
    at : (space : Bool) (count : ℕ) → count ≤ length columns → used_with space count ≤ suc (length columns)
    at true zero below = omega arith
    at true (suc count) below = omega (arith, below)
    at false count below = omega (arith, below)

-- one more column, of which `end` is told
module _ (columns : List ℕ) (i count end : ℕ) (below : i < length columns) (so_far : count ≡ used (take i columns))
    (is : end ≡ cond (is_space (get_or columns i 0)) 0 (i + 1)) where
  more_at : (space : Bool) → is_space (get_or columns i 0) ≡ space → max count end ≡ used (take (i + 1) columns)
  more_at true e =
      let here : end ≡ 0 = is ∙ ap (λ b. cond b 0 (i + 1)) e in
      let more = ap used (take_more columns i 0 below) ∙ used_push (take i columns) (get_or columns i 0) true e in
      omega (arith, here, more, so_far)
  more_at false e =
      let here : end ≡ i + 1 = is ∙ ap (λ b. cond b 0 (i + 1)) e in
      let more = ap used (take_more columns i 0 below) ∙ used_push (take i columns) (get_or columns i 0) false e in
      let width = length-take-le i columns (omega (arith, below)) in
      omega (arith, here, more, so_far, width, used_few (take i columns))

  pub used_more : max count end ≡ used (take (i + 1) columns)
  used_more = more_at (is_space (get_or columns i 0)) refl

-- columns are those that are used, and then spaces
pub trimmed : (columns : List ℕ) → take (used columns) columns ++ replicate (length columns - used columns) 32 ≡ columns
trimmed [] = refl
trimmed (b ∷ columns) = at (is_space b) refl (used columns) (trimmed columns)
  where
    at : (space : Bool) → is_space b ≡ space → (count : ℕ) → take count columns ++ replicate (length columns - count) 32 ≡ columns
        → take (used_with space count) (b ∷ columns) ++ replicate (suc (length columns) - used_with space count) 32 ≡ b ∷ columns
    at true e zero so =
        let less : suc (length columns) - 0 ≡ suc (length columns) = omega arith in
        let all : length columns ≡ length columns - 0 = omega arith in
        ap (λ n. replicate n 32) less ∙ ap (λ n. 32 ∷ replicate n 32) all ∙ ap (λ l. 32 ∷ l) so
        ∙ ap (λ c. c ∷ columns) (sym (eqb-true b 32 e))
    at true e (suc count) so =
        let less : suc (length columns) - suc (suc count) ≡ length columns - suc count = omega arith in
        ap (λ n. b ∷ (take (suc count) columns ++ replicate n 32)) less ∙ ap (λ l. b ∷ l) so
    at false e count so =
        let less : suc (length columns) - suc count ≡ length columns - count = omega arith in
        ap (λ n. b ∷ (take count columns ++ replicate n 32)) less ∙ ap (λ l. b ∷ l) so

-- a line is its used columns, and then spaces
module _ (line : List ℕ) (h : IsLine line) where
  pub few : used line ≤ 80
  few = omega (arith, h.width, used_few line)

  pub kept_width : length (take (used line) line) ≡ used line
  kept_width = length-take-le (used line) line (used_few line)

  pub widened : wide (take (used line) line) ≡ line
  widened =
      let rest : 80 - length (take (used line) line) ≡ length line - used line = omega (arith, kept_width, h.width) in
      ap (λ n. take (used line) line ++ replicate n 32) rest ∙ trimmed line

-- the bytes keep these lines
pub record Keep (bytes : List ℕ) (lines : List (List ℕ)) : Type 0 where
  pub is : bytes ≡ kept_text lines
  pub are_lines : All IsLine lines

-- each of them takes one byte at least
no_more : (lines : List (List ℕ)) → length lines ≤ length (kept_text lines)
no_more [] = omega arith
no_more (line ∷ lines) = omega (arith, no_more lines, length-append (take (used line) line) (kept_text lines))

-- so they are found again
found : (more : List ℕ) (lines : List (List ℕ)) → All IsLine lines → length lines ≤ length more → first_lines_in more
    (kept_text lines) ≡ lines
found [] [] h within = refl
found (_ ∷ more) [] h within = refl
found [] (line ∷ lines) h within = absurd (omega (arith, within))
found (_ ∷ more) (line ∷ lines) h within =
    let first = All-head IsLine line lines h in
    let columns = take (used line) line in
    let width = kept_width line first in
    ap (λ l. wide l ∷ first_lines_in more (drop (used line) (columns ++ kept_text lines)))
    (take_at columns (kept_text lines) (used line) width)
    ∙ ap (λ l. l ∷ first_lines_in more (drop (used line) (columns ++ kept_text lines))) (widened line first)
    ∙ ap (λ l. line ∷ first_lines_in more l) (drop_at columns (kept_text lines) (used line) width)
    ∙ ap (λ l. line ∷ l) (found more lines (All-tail IsLine line lines h) (omega (arith, within)))

pub lines_kept : (bytes : List ℕ) (lines : List (List ℕ)) → Keep bytes lines → lines_in bytes ≡ lines
lines_kept bytes lines k = subst (λ b. lines_in b ≡ lines) (sym k.is) (found (kept_text lines) lines k.are_lines (no_more lines))

-- what bytes that keep lines keep
pub keep_view : (bytes : List ℕ) (now : List (List ℕ)) → AreKept bytes → lines_in bytes ≡ now → Keep bytes now
keep_view bytes now h view_is =
    let it : Keep bytes h.lines = record { is = h.is; are_lines = h.are_lines } in
    subst (Keep bytes) (sym (lines_kept bytes h.lines it) ∙ view_is) it

pub are_kept : (bytes : List ℕ) (lines : List (List ℕ)) → Keep bytes lines → AreKept bytes
are_kept bytes lines k = record { lines = lines; are_lines = k.are_lines; is = k.is }

-- a line more
pub one_more : (old new : List ℕ) (lines : List (List ℕ)) (line : List ℕ) → Keep old lines → IsLine line → new ≡ old ++ kept line
    → Keep new (lines ++ line ∷ [])
one_more old new lines line k h is = record {
  is = is ∙ ap (λ l. l ++ kept line) k.is
      ∙ ap (λ l. kept_text lines ++ l) (sym (append-nil (kept line)))
      ∙ sym (flat_map-append kept lines (line ∷ []));
  are_lines = All-append IsLine lines (line ∷ []) k.are_lines (All-cons IsLine line [] h (All-nil IsLine));
}

-- the steps by which a line is appended
pub kept_behind : (old pushed extended new line : List ℕ) (count end : ℕ) → count ≡ used line → pushed ≡ old ++ count ∷ []
    → extended ≡ pushed ++ line → end ≡ length pushed + count → new ≡ take end extended → new ≡ old ++ kept line
kept_behind old pushed extended new line count end told one more to cut =
    cut ∙ ap (take end) more ∙ ap (λ n. take n (pushed ++ line)) to ∙ take-append-add pushed line count
    ∙ ap (λ l. l ++ take count line) one ∙ append_assoc old (count ∷ []) (take count line)
    ∙ ap (λ n. old ++ n ∷ take n line) told

-- what stands first in the bytes: a count, so many columns of the first line, and what keeps the others
module _ (bytes : List ℕ) (lines : List (List ℕ)) (k : Keep bytes lines) (some : 0 < length lines) (count : ℕ)
    (told : count ≡ get_or bytes 0 0) where
  abbrev line : List ℕ
  line = get_or lines 0 []

  is_line : IsLine line
  is_line = k.are_lines 0 [] some

  apart : bytes ≡ used line ∷ (take (used line) line ++ kept_text (drop 1 lines))
  apart = k.is ∙ ap kept_text (drop_more lines 0 [] some)

  count_is : count ≡ used line
  count_is = told ∙ ap (λ b. get_or b 0 0) apart

  pub count_few : count ≤ 80
  count_few = omega (arith, count_is, few line is_line)

  pub first_within : 1 + count ≤ length bytes
  first_within =
      omega (arith, count_is, ap length apart, length-append (take (used line) line) (kept_text (drop 1 lines)), kept_width line is_line)

  pub rest_kept : (rest : List ℕ) → rest ≡ drop (1 + count) bytes → Keep rest (drop 1 lines)
  rest_kept rest is =
      let front : length (used line ∷ take (used line) line) ≡ 1 + used line = omega (arith, kept_width line is_line) in
      record {
        is = is ∙ ap (λ n. drop (1 + n) bytes) count_is ∙ ap (drop (1 + used line)) apart
            ∙ drop_at (used line ∷ take (used line) line) (kept_text (drop 1 lines)) (1 + used line) front;
        are_lines = All-drop IsLine 1 lines k.are_lines;
      }

  -- these bytes begin with the columns of the first line
  columns_in : (columns : List ℕ) → columns ≡ drop 1 bytes → take count columns ≡ take (used line) line
  columns_in columns is =
      ap (take count) (is ∙ ap (drop 1) apart) ∙ ap (λ n. take n (take (used line) line ++ kept_text (drop 1 lines))) count_is
      ∙ take_at (take (used line) line) (kept_text (drop 1 lines)) (used line) (kept_width line is_line)

  -- and so do the first eighty of them, and those behind which spaces stand
  pub columns_in_chunk : (columns chunk : List ℕ) → columns ≡ drop 1 bytes → chunk ≡ take 80 columns
      → take count chunk ≡ take (used line) line
  columns_in_chunk columns chunk is first = ap (take count) first ∙ take-take count 80 columns count_few ∙ columns_in columns is

  pub columns_in_padded : (columns padded : List ℕ) → columns ≡ drop 1 bytes → padded ≡ left_justified 80 columns
      → take count padded ≡ take (used line) line
  columns_in_padded columns padded is left =
      let within : count ≤ length columns = omega (arith, first_within, ap length is, length-drop 1 bytes) in
      sym (take-take count (length columns) padded within)
      ∙ ap (take count) (ap (take (length columns)) left ∙ take_at columns (replicate (80 - length columns) 32) (length columns) refl)
      ∙ columns_in columns is

  module _ (columns : List ℕ) (is : take count columns ≡ take (used line) line) where
    pub columns_wide : wide (take count columns) ≡ line
    columns_wide = ap wide is ∙ widened line is_line

    pub columns_printable : ArePrintable (take count columns)
    columns_printable = subst ArePrintable (sym is) (All-take IsPrintable (used line) line is_line.printable)

-- no byte is as great as 128
pub small : (lines : List (List ℕ)) → All IsLine lines → All (λ b. b < 128) (kept_text lines)
small [] h = All-nil (λ b. b < 128)
small (line ∷ lines) h =
    let first = All-head IsLine line lines h in
    All-cons (λ b. b < 128) (used line) (take (used line) line ++ kept_text lines) (omega (arith, few line first))
    (All-append (λ b. b < 128) (take (used line) line) (kept_text lines)
    (All-take (λ b. b < 128) (used line) line (All-weaker IsPrintable (λ b. b < 128) (λ b p. omega (arith, p.1)) line first.printable))
    (small lines (All-tail IsLine line lines h)))

-- bytes keep no more lines than they are
few_first_lines : (more bytes : List ℕ) → length (first_lines_in more bytes) ≤ length more
few_first_lines [] bytes = omega arith
few_first_lines (m ∷ more) [] = omega arith
few_first_lines (m ∷ more) (count ∷ bytes) =
    let rest = few_first_lines more (drop count bytes) in
    omega (arith, rest)

pub few_lines : (bytes : List ℕ) → length (lines_in bytes) ≤ length bytes
few_lines bytes = few_first_lines bytes bytes

-- how many columns are used of one more
pub used_next : (columns : List ℕ) (i : ℕ) → i < length columns →
    used (take (i + 1) columns) ≡ cond (is_space (get_or columns i 0)) (used (take i columns)) (i + 1)
used_next columns i below =
    let width = length-take-le i columns (omega (arith, below)) in
    ap used (take_more columns i 0 below)
    ∙ used_push (take i columns) (get_or columns i 0) (is_space (get_or columns i 0)) refl
    ∙ ap (λ n. cond (is_space (get_or columns i 0)) (used (take i columns)) n) (omega (arith, width))
