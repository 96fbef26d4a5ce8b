-- The six digits that name a day, and the day that six digits name.
use Rattle.cif_columns.proofs.Names.{IfSome, IsDated, List, None, Option, Some, StandsInDdmmyy, StandsInYymmdd, [], arith, day_from}
use Rattle.cif_columns.proofs.Names.{day_number, days_in_month_bounds, ddmmyy_in, get_or, length, refl, rules, sym, text_from_reads}
use Rattle.cif_columns.proofs.Names.{yymmdd_in, ℕ, ◌<◌, ◌∙◌, ◌∷◌, ◌≡◌}
use Rattle.cif_columns.proofs.{Dates.day_number-dated, Dates.is_dated-day_number, DigitsLemmas.number_in-two_digits}
use Rattle.cif_columns.proofs.{DigitsLemmas.two_digits-number_in}

-- a date's month and day have two digits
small_parts : (yy month day n : ℕ) → IsDated yy month day n → (month < 100) × (day < 100)
small_parts yy month day n h =
    let m : h.date.month ≡ month = cc h.on.1 in
    let d : h.date.day ≡ day = cc h.on.2 in
    (omega (arith, h.date.month_in.1), omega (arith, h.date.day_in.1, days_in_month_bounds h.date.year h.date.month))

-- ---- what stands in columns is found there

day_from_all : (a b c : Option ℕ) (yy month day n : ℕ) → a ≡ Some yy → b ≡ Some month → c ≡ Some day
    → day_number yy month day ≡ Some n → day_from a b c ≡ Some n
day_from_all a b c yy month day n p q r h = rw (p, q, r) h

pub yymmdd_in-stands : (columns : List ℕ) (n : ℕ) → StandsInYymmdd columns n → yymmdd_in columns ≡ Some n
unfolding yymmdd_in
yymmdd_in-stands columns n s =
    let small = small_parts s.yy s.month s.day n s.dated in
    rw s.spelled
    (day_from_all _ _ _ s.yy s.month s.day n (number_in-two_digits s.yy s.dated.year)
    (number_in-two_digits s.month small.0) (number_in-two_digits s.day small.1) (day_number-dated s.yy s.month s.day n s.dated))

pub ddmmyy_in-stands : (columns : List ℕ) (n : ℕ) → StandsInDdmmyy columns n → ddmmyy_in columns ≡ Some n
unfolding ddmmyy_in
ddmmyy_in-stands columns n s =
    let small = small_parts s.yy s.month s.day n s.dated in
    rw s.spelled
    (day_from_all _ _ _ s.yy s.month s.day n (number_in-two_digits s.yy s.dated.year)
    (number_in-two_digits s.month small.0) (number_in-two_digits s.day small.1) (day_number-dated s.yy s.month s.day n s.dated))

-- ---- what is found in six columns stands there

record IsFrom (a b c : Option ℕ) (n : ℕ) : Type 0 where
  yy : ℕ
  month : ℕ
  day : ℕ
  year_is : a ≡ Some yy
  month_is : b ≡ Some month
  day_is : c ≡ Some day
  number : day_number yy month day ≡ Some n

parts_from : (a b c : Option ℕ) (n : ℕ) → day_from a b c ≡ Some n → IsFrom a b c n
parts_from None b c n h = cc
parts_from (Some yy) None c n h = cc
parts_from (Some yy) (Some month) None n h = cc
parts_from (Some yy) (Some month) (Some day) n h =
    record { yy = yy; month = month; day = day; year_is = refl; month_is = refl; day_is = refl; number = h }

six : (xs : List ℕ) → length xs ≡ 6
    → xs ≡ get_or xs 0 0 ∷ get_or xs 1 0 ∷ get_or xs 2 0 ∷ get_or xs 3 0 ∷ get_or xs 4 0 ∷ get_or xs 5 0 ∷ []
six xs h = text_from_reads xs _ h (search rules)

pub stands-yymmdd_in : (columns : List ℕ) (n : ℕ) → length columns ≡ 6 → yymmdd_in columns ≡ Some n → StandsInYymmdd columns n
unfolding yymmdd_in
stands-yymmdd_in columns n width h =
    let from = parts_from _ _ _ n h in
    let year = two_digits-number_in (get_or columns 0 0) (get_or columns 1 0) from.yy from.year_is in
    let month = two_digits-number_in (get_or columns 2 0) (get_or columns 3 0) from.month from.month_is in
    let day = two_digits-number_in (get_or columns 4 0) (get_or columns 5 0) from.day from.day_is in
    record {
      yy = from.yy;
      month = from.month;
      day = from.day;
      spelled = six columns width ∙ cc (year.1, month.1, day.1);
      dated = is_dated-day_number from.yy from.month from.day n year.0 from.number;
    }

-- the same digits, as if the year came first
pub stands-ddmmyy_in : (columns : List ℕ) (n : ℕ) → length columns ≡ 6 → ddmmyy_in columns ≡ Some n → StandsInDdmmyy columns n
unfolding ddmmyy_in yymmdd_in
stands-ddmmyy_in columns n width h =
    let turned = get_or columns 4 0 ∷ get_or columns 5 0 ∷ get_or columns 2 0 ∷ get_or columns 3 0 ∷ get_or columns 0 0
    ∷ get_or columns 1 0 ∷ [] in
    let s = stands-yymmdd_in turned n refl h in
    record { yy = s.yy; month = s.month; day = s.day; spelled = six columns width ∙ cc s.spelled; dated = s.dated }

-- ---- a reading answers what is found

pub yymmdd_found : (day : Option ℕ) (columns : List ℕ) → length columns ≡ 6 → day ≡ yymmdd_in columns → IfSome day (StandsInYymmdd columns)
yymmdd_found None columns width is = tt
yymmdd_found (Some n) columns width is = stands-yymmdd_in columns n width (sym is)

pub ddmmyy_found : (day : Option ℕ) (columns : List ℕ) → length columns ≡ 6 → day ≡ ddmmyy_in columns → IfSome day (StandsInDdmmyy columns)
ddmmyy_found None columns width is = tt
ddmmyy_found (Some n) columns width is = stands-ddmmyy_in columns n width (sym is)
