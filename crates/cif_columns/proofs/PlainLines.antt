-- A plain line is a line, a line feed ends it, and what a line says fits its columns.
use Rattle.cif_columns.proofs.Names.{All, All-append, All-cons, All-drop, All-head, All-nil, All-replicate, All-tail, All-take, AllFit}
use Rattle.cif_columns.proofs.Names.{ArePrintable, Bool, FieldValue, Fits, IsLine, IsPrintable, List, P, Row, Stp, [], activity_codes, ap}
use Rattle.cif_columns.proofs.Names.{append_assoc, arith, columns, cond, contents_of, date, date_of, days_columns, days_in_month_bounds}
use Rattle.cif_columns.proofs.Names.{drop, exactly, false, get_or, get_or-append_right, get_or_append_left, indicator, is_line_feed}
use Rattle.cif_columns.proofs.Names.{is_whole_from, length, length-append, length-drop, length-take, letter, lines, lines_text, map, nat_eq}
use Rattle.cif_columns.proofs.Names.{nat_tests, onto_first, packed, plain_columns, plain_line, pos, public_time, refl, replicate}
use Rattle.cif_columns.proofs.Names.{slice_split, spare, strip_carriage_return, subst, text, true, two_digits, weekdays, width_of}
use Rattle.cif_columns.proofs.Names.{working_time, yymmdd_of, ℕ, ◌%◌, ◌++◌, ◌+◌, ◌-◌, ◌<◌, ◌∙◌, ◌∷◌, ◌≡◌, ◌≤◌}
use Rattle.cif_columns.proofs.{Codes.printable-packed, DayDigits.counted, Parts.length-plain_line, WholeLines.lines_to_feed}
use Rattle.cif_columns.{proofs.Times.digits_printable, proofs.Times.public_printable, proofs.Times.work_printable, specs.Field.StandsIn}

spaces_printable : (n : ℕ) → ArePrintable (replicate n 32)
spaces_printable n = All-replicate IsPrintable n 32 (omega arith, omega arith)

day_printable : (n : ℕ) → ArePrintable (yymmdd_of n)
unfolding yymmdd_of
day_printable n =
    let d = date_of n in
    let c = counted n in
    let bound = days_in_month_bounds (pos d.year) d.month in
    let month = c.month_in.1 in
    let day = c.day_in.1 in
    All-append IsPrintable (two_digits (d.year % 100) ++ two_digits d.month) (two_digits d.day)
    (All-append IsPrintable (two_digits (d.year % 100)) (two_digits d.month)
    (digits_printable (d.year % 100) (let z : d.year % 100 < 100 = omega arith in z))
    (digits_printable d.month (let z : d.month < 100 = omega (arith, month) in z)))
    (digits_printable d.day (let z : d.day < 100 = omega (arith, day, bound.0) in z))

days_printable : (days : List Bool) → ArePrintable (days_columns days)
days_printable [] = All-nil IsPrintable
days_printable (true ∷ days) = All-cons IsPrintable 49 (days_columns days) (omega arith, omega arith) (days_printable days)
days_printable (false ∷ days) = All-cons IsPrintable 48 (days_columns days) (omega arith, omega arith) (days_printable days)

letter_printable : (stp : Stp) → IsPrintable (letter stp)
letter_printable P = (omega arith, omega arith)
letter_printable _ = (omega arith, omega arith)

-- plain columns may stand in a line
pub printable-plain_columns : (width : ℕ) (value : FieldValue) → Fits width value → ArePrintable (plain_columns width value)
printable-plain_columns width (exactly value) h = h.1
printable-plain_columns width (text value) h =
    All-append IsPrintable value (replicate (width - length value) 32) h.1.printable (spaces_printable (width - length value))
printable-plain_columns width (activity_codes codes) h =
    All-append IsPrintable (packed codes) (replicate (12 - length (packed codes)) 32) (printable-packed codes h.1.each)
    (spaces_printable (12 - length (packed codes)))
printable-plain_columns width (working_time time) h = work_printable time h.2
printable-plain_columns width (public_time time) h = public_printable time h.2
printable-plain_columns width (date day) h = day_printable day
printable-plain_columns width (weekdays days) h = days_printable days
printable-plain_columns width (indicator stp) h = All-cons IsPrintable (letter stp) [] (letter_printable stp) (All-nil IsPrintable)
printable-plain_columns width spare h = spaces_printable width

printable-plain_line : (rows : List Row) → AllFit rows → ArePrintable (plain_line rows)
printable-plain_line [] fits = All-nil IsPrintable
printable-plain_line (r ∷ rows) fits =
    All-append IsPrintable (plain_columns (width_of r) r.value) (plain_line rows) (printable-plain_columns (width_of r) r.value fits.0)
    (printable-plain_line rows fits.1)

-- a plain line is a line
pub line-plain_line : (rows : List Row) → is_whole_from 1 rows ≡ true → AllFit rows → IsLine (plain_line rows)
line-plain_line rows whole fits = record { width = length-plain_line rows whole fits; printable = printable-plain_line rows fits }

-- ---- a line that a line feed ends

no_feed : (x : ℕ) → IsPrintable x → is_line_feed x ≡ false
no_feed x h = let low = h.0 in grind (arith, nat_tests)

unsplit : (xs : List ℕ) → ArePrintable xs → slice_split is_line_feed xs ≡ xs ∷ []
unsplit [] h = refl
unsplit (x ∷ xs) h =
    ap (λ b. cond b ([] ∷ slice_split is_line_feed xs) (onto_first x (slice_split is_line_feed xs)))
    (no_feed x (All-head IsPrintable x xs h))
    ∙ ap (onto_first x) (unsplit xs (All-tail IsPrintable x xs h))

pub unstripped : (xs : List ℕ) → IsLine xs → strip_carriage_return xs ≡ xs
unstripped xs h =
    let wide = h.width in
    let last = h.printable (length xs - 1) 0 (let z : length xs - 1 < length xs = omega (arith, wide) in z) in
    let low = last.0 in
    let plain : nat_eq (get_or xs (length xs - 1) 0) 13 ≡ false = grind (arith, nat_tests) in
    rw plain

-- the contents of a line that a line feed ends are the line, and then those of what follows
pub lines-line : (line more : List ℕ) → IsLine line → lines (line ++ 10 ∷ more) ≡ line ∷ lines more
lines-line line more h =
    lines_to_feed line more
    ∙ ap (λ parts. map strip_carriage_return parts ++ lines more) (unsplit line h.printable)
    ∙ ap (λ l. l ∷ lines more) (unstripped line h)

-- so the contents of lines that each end with a line feed are the lines
pub contents-lines_text : (ls : List (List ℕ)) → All IsLine ls → contents_of (lines_text ls) ≡ ls
contents-lines_text [] h = refl
contents-lines_text (line ∷ others) h =
    ap contents_of (append_assoc line (10 ∷ []) (lines_text others))
    ∙ lines-line line (lines_text others) (All-head IsLine line others h)
    ∙ ap (λ ls. line ∷ ls) (contents-lines_text others (All-tail IsLine line others h))

-- ---- what stands in a line fits its columns

part-printable : (front part back whole : List ℕ) → whole ≡ front ++ part ++ back → ArePrintable whole → ArePrintable part
part-printable front part back whole is h = λ k d lt. subst IsPrintable (at k d lt)
    (subst ArePrintable is h (length front + k) d (within k lt))
  where
    within : (k : ℕ) → k < length part → length front + k < length (front ++ part ++ back)
    within k lt = omega (arith, lt, length-append (front ++ part) back, length-append front part)

    at : (k d : ℕ) → k < length part → get_or (front ++ part ++ back) (length front + k) d ≡ get_or part k d
    at k d lt =
        get_or_append_left (front ++ part) back d (length front + k)
        (let z : length front + k < length (front ++ part) = omega (arith, lt, length-append front part) in z)
        ∙ get_or-append_right front part (length front) (length front + k) d refl (let z : length front ≤ length front + k = omega arith in
        z)
        ∙ ap (λ i. get_or part i d) (let z : length front + k - length front ≡ k = omega arith in z)

-- a text that stands in columns of a line fits so many
pub fits-text : (columns value : List ℕ) → ArePrintable columns → StandsIn columns (text value) → Fits (length columns) (text value)
fits-text columns value h s =
    let long : length columns ≡ length (replicate s.before 32 ++ value ++ replicate s.after 32) = ap length s.spelled in (
      (let z : length value ≤ length columns =
          omega (
            arith,
            long,
            length-append (replicate s.before 32 ++ value) (replicate s.after 32),
            length-append (replicate s.before 32) value,
          ) in z),
      record { trimmed = s.trimmed; printable = part-printable (replicate s.before 32) value (replicate s.after 32) columns s.spelled h },
    )

-- so many columns of a line, from one to another
module _ (from to : ℕ) (line : List ℕ) (h : IsLine line) (start : 1 ≤ from) (some : from ≤ to) (within : to ≤ 80) where
  pub length-columns : length (columns from to line) ≡ to + 1 - from
  length-columns = let wide = h.width in
      omega (arith, wide, length-take (to - (from - 1)) (drop (from - 1) line), length-drop (from - 1) line)

  pub printable-columns : ArePrintable (columns from to line)
  printable-columns = All-take IsPrintable (to - (from - 1)) (drop (from - 1) line) (All-drop IsPrintable (from - 1) line h.printable)

  -- a text that stands there fits
  pub fits-text_at : (value : List ℕ) → StandsIn (columns from to line) (text value) → Fits (to + 1 - from) (text value)
  fits-text_at value s = subst (λ n. Fits n (text value)) length-columns (fits-text (columns from to line) value printable-columns s)

  -- and so do columns that are kept as they stand
  pub fits-exactly_at : (value : List ℕ) → columns from to line ≡ value → Fits (to + 1 - from) (exactly value)
  fits-exactly_at value s = subst (λ v. Fits (to + 1 - from) (exactly v)) s (length-columns, printable-columns)
