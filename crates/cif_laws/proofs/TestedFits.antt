-- Whether values can stand in their columns, by a test.
use Rattle.std.proofs.Common.{All, Bool, List, [], arith, bytes_eq, false, leb-true, length, map, nat_eq, nat_le, nat_lt, refl, subst, true}
use Rattle.std.proofs.Common.{ℕ, ◌&&◌, ◌∷◌, ◌≡◌}
use Rattle.std.specs.List.{list_all}
use Rattle.std.proofs.lemmas.List.Elements.{All-cons, All-nil}
use Rattle.cif_columns.proofs.Names.{and_parts, bytes_eq-Decides, nat_tests}
use Rattle.cif_columns.proofs.{Parts.stands-plain_line, PlainLines.line-plain_line, PrintableBytes.printable_fact, Texts.is_text_of}
use Rattle.cif_columns.proofs.{Times.public-stands, Times.work-stands}
use Rattle.cif_columns.specs.{Activities.IsCode, FirstLine.is_printable, Line.IsLine, PublicTime.is_public_time, Text.IsTrimmed}
use Rattle.cif_columns.specs.{Text.text_of, WorkTime.is_work_time}
use Rattle.cif_columns.specs.Field.{AllFit, FieldValue, Fits, Row, activity_codes, date, exactly, indicator, is_whole_from, plain_line}
use Rattle.cif_columns.specs.Field.{public_time, spare, text, weekdays, width_of, working_time}
use Rattle.cif_extract.specs.Body.{KeepAll}

-- Whether the value can stand in so many columns. Of activity codes the test accepts none alone.
abbrev value_fits : ℕ → FieldValue → Bool
value_fits width (exactly value) = nat_eq (length value) width && list_all is_printable value
value_fits width (text value) = nat_le (length value) width && (list_all is_printable value && bytes_eq (text_of value) value)
value_fits width (activity_codes []) = nat_eq width 12
value_fits width (working_time time) = nat_eq width 5 && (nat_eq (length time) 5 && is_work_time time)
value_fits width (public_time time) = nat_eq width 4 && (nat_eq (length time) 4 && is_public_time time)
value_fits width (date day) = nat_eq width 6 && nat_lt day 36525
value_fits width (weekdays days) = nat_eq width 7 && nat_eq (length days) 7
value_fits width (indicator stp) = nat_eq width 1
value_fits width spare = true
value_fits width _ = false

trimmed : (value : List ℕ) → bytes_eq (text_of value) value ≡ true → IsTrimmed value
trimmed value same = subst IsTrimmed ((bytes_eq-Decides (text_of value) value).0 same) (is_text_of value).trimmed

is_width : (width n : ℕ) → nat_eq width n ≡ true → width ≡ n
is_width width n same = grind (arith, nat_tests)

fits-tested : (width : ℕ) (value : FieldValue) → value_fits width value ≡ true → Fits width value
fits-tested width (exactly value) is =
    let (wide, printable) = and_parts (nat_eq (length value) width) (list_all is_printable value) is in
    (is_width (length value) width wide, printable_fact value printable)
fits-tested width (text value) is =
    let (wide, is_text) = and_parts (nat_le (length value) width) (list_all is_printable value && bytes_eq (text_of value) value) is in
    let (printable, same) = and_parts (list_all is_printable value) (bytes_eq (text_of value) value) is_text in
    (leb-true (length value) width wide, record { trimmed = trimmed value same; printable = printable_fact value printable })
fits-tested width (activity_codes []) is = (is_width width 12 is, record { few = omega arith; each = All-nil IsCode })
fits-tested width (working_time time) is =
    let (wide, is_time) = and_parts (nat_eq width 5) (nat_eq (length time) 5 && is_work_time time) is in
    let (long, timed) = and_parts (nat_eq (length time) 5) (is_work_time time) is_time in
    let five = is_width (length time) 5 long in
    (is_width width 5 wide, five, (work-stands time five timed).form)
fits-tested width (public_time time) is =
    let (wide, is_time) = and_parts (nat_eq width 4) (nat_eq (length time) 4 && is_public_time time) is in
    let (long, timed) = and_parts (nat_eq (length time) 4) (is_public_time time) is_time in
    let four = is_width (length time) 4 long in
    (is_width width 4 wide, four, (public-stands time four timed).form)
fits-tested width (date day) is =
    let (wide, is_day) = and_parts (nat_eq width 6) (nat_lt day 36525) is in
    (is_width width 6 wide, grind (arith, nat_tests))
fits-tested width (weekdays days) is =
    let (wide, week) = and_parts (nat_eq width 7) (nat_eq (length days) 7) is in
    (is_width width 7 wide, is_width (length days) 7 week)
fits-tested width (indicator stp) is = is_width width 1 is
fits-tested width spare is = tt
fits-tested width (activity_codes (c ∷ codes)) is = cc

-- of all rows
abbrev pub all_fit : List Row → Bool
all_fit [] = true
all_fit (r ∷ rows) = value_fits (width_of r) r.value && all_fit rows

pub rows-fit : (rows : List Row) → all_fit rows ≡ true → AllFit rows
rows-fit [] is = tt
rows-fit (r ∷ rows) is =
    let (first, others) = and_parts (value_fits (width_of r) r.value) (all_fit rows) is in
    (fits-tested (width_of r) r.value first, rows-fit rows others)

-- The plain lines of tables are lines, and keep what the tables say, if that can stand in their columns.
abbrev pub all_whole : List (List Row) → Bool
all_whole [] = true
all_whole (table ∷ tables) = is_whole_from 1 table && (all_fit table && all_whole tables)

pub tables-kept : (tables : List (List Row)) → all_whole tables ≡ true
    → All IsLine (map plain_line tables) × KeepAll (map plain_line tables) tables
tables-kept [] is = (All-nil IsLine, tt)
tables-kept (table ∷ tables) is =
    let (whole, all) = and_parts (is_whole_from 1 table) (all_fit table && all_whole tables) is in
    let (tested, more) = and_parts (all_fit table) (all_whole tables) all in
    let fit = rows-fit table tested in
    let (lines, kept) = tables-kept tables more in (
      All-cons IsLine (plain_line table) (map plain_line tables) (line-plain_line table whole fit) lines,
      (stands-plain_line table whole fit, refl, kept),
    )
