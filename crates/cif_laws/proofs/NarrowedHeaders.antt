-- There is a header with each window that lies in a header's own.
use Rattle.cif_columns.proofs.Names.{All-append, All-drop, All-take, date, yymmdd_of}
use Rattle.std.proofs.Common.{List, ap, arith, drop, length, refl, take, ℕ, ◌++◌, ◌∙◌, ◌≡◌, ◌≤◌}
use borrow.Rule.Slice.PartMut.{put_mid}
use Rattle.cif_columns.proofs.{DayColumns.ddmmyy_in-stands, DayDigits.stands-ddmmyy_of, PlainLines.printable-plain_columns}
use Rattle.cif_columns.specs.{Day.IsDay, Day.ddmmyy_in, DayDigits.ddmmyy_of, Line.ArePrintable, Line.IsPrintable}
use Rattle.cif_records.proofs.Windows.{are_printable, kept-first, kept-front, kept-indicator, kept-last, still_wide, written}
use Rattle.cif_records.specs.{HeaderColumns.with_window, declared.header.Header.Header}

-- its digits are those in the order year, month, day
ddmmyy_printable : (n : ℕ) → IsDay n → ArePrintable (ddmmyy_of n)
unfolding ddmmyy_of yymmdd_of
ddmmyy_printable n is_day =
    let digits = yymmdd_of n in
    let all : ArePrintable digits = printable-plain_columns 6 (date n) (refl, is_day) in
    let day = All-drop IsPrintable 4 digits all in
    let month = All-drop IsPrintable 2 (take 4 digits) (All-take IsPrintable 4 digits all) in
    All-append IsPrintable (drop 4 digits ++ drop 2 (take 4 digits)) (take 2 digits)
    (All-append IsPrintable (drop 4 digits) (drop 2 (take 4 digits)) day month) (All-take IsPrintable 2 digits all)

ddmmyy_width : (n : ℕ) → length (ddmmyy_of n) ≡ 6
unfolding ddmmyy_of
ddmmyy_width n = refl

-- a header with another window, which its columns have
pub record IsWindowed (h : Header) (first last : ℕ) (k : Header) : Type 0 where
  pub first_is : k.first ≡ first
  pub last_is : k.last ≡ last
  pub columns : k.columns ≡ with_window first last h.columns

module _ (h : Header) (first last : ℕ) (in_order : first ≤ last) (is_day : IsDay last) where
  abbrev put : List ℕ
  put = put_mid 52 6 (put_mid 46 6 h.columns (ddmmyy_of first)) (ddmmyy_of last)

  first-is : IsDay first
  first-is = omega (arith, in_order, is_day)

  abbrev windowed : Header
  windowed =
      let f = ddmmyy_of first in
      let l = ddmmyy_of last in
      let f_wide = ddmmyy_width first in
      let l_wide = ddmmyy_width last in record {
        columns = put;
        first = first;
        last = last;
        wide = still_wide h.columns f l h.wide f_wide l_wide;
        printable = are_printable h.columns f l h.wide f_wide l_wide h.printable (ddmmyy_printable first first-is)
            (ddmmyy_printable last is_day);
        full = kept-indicator put h.columns (kept-front h.columns f l h.wide f_wide l_wide) ∙ h.full;
        first_stands = ap ddmmyy_in (kept-first h.columns f l h.wide f_wide l_wide)
            ∙ ddmmyy_in-stands f first (stands-ddmmyy_of first first-is);
        last_stands = ap ddmmyy_in (kept-last h.columns f l h.wide f_wide l_wide)
            ∙ ddmmyy_in-stands l last (stands-ddmmyy_of last is_day);
        in_order = in_order;
      }

  pub windowed-header : (k : Header) × IsWindowed h first last k
  windowed-header = (
    windowed,
    record {
      first_is = refl;
      last_is = refl;
      columns = written h.columns (ddmmyy_of first) (ddmmyy_of last) h.wide (ddmmyy_width first) (ddmmyy_width last);
    },
  )
