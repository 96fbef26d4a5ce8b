-- The digits that counting gives are those that name the day.
use Rattle.cif_columns.proofs.Names.{Bool, CalendarDate, Date, IsDated, IsDay, List, StandsInDdmmyy, StandsInYymmdd, ap, arith, cond}
use Rattle.cif_columns.proofs.Names.{date_of, day_count, day_count-day, day_count-early, day_count-last_of_year, day_count-lt_year}
use Rattle.cif_columns.proofs.Names.{day_count-next_month, day_count-next_year, days_from_civil-day_count, days_in_month}
use Rattle.cif_columns.proofs.Names.{days_in_month_bounds, ddmmyy_of, false, nat_lt, nat_tests, next_date, pos, refl, signed_arith, subst}
use Rattle.cif_columns.proofs.Names.{suc, sym, true, year_of, yymmdd_of, zero, ℕ, ℤ, ◌%◌, ◌+◌, ◌<◌, ◌∙◌, ◌≡◌, ◌≤◌}
use Rattle.cif_columns.proofs.Dates.{day_count-1960, number_is_day, one_ddmmyy, one_yymmdd}

day_count-2059 : day_count (pos 2059) 12 31 ≡ 4_404_824
day_count-2059 = omega (
  arith,
  day_count-last_of_year (pos 2059),
  day_count-next_year (pos 2059) (pos 2060) (omega (arith, signed_arith)) (omega (arith, signed_arith)),
  day_count-early (pos 2060) 12059 1 1 refl (omega arith) (omega arith) (omega arith),
)

-- the date of the day with number n
pub record IsCounted (n : ℕ) (d : CalendarDate) : Type 0 where
  pub from : 1960 ≤ d.year
  pub month_in : (1 ≤ d.month) × (d.month ≤ 12)
  pub day_in : (1 ≤ d.day) × (d.day ≤ days_in_month (pos d.year) d.month)
  pub count : day_count (pos d.year) d.month d.day ≡ 4_368_300 + n

december : (y m : ℕ) → m ≡ 12 → days_in_month (pos y) m ≡ 31
december y m e = rw e

next_counted : (n : ℕ) (d : CalendarDate) → IsCounted n d → IsCounted (suc n) (next_date d)
next_counted n d h = at (nat_lt d.day (days_in_month (pos d.year) d.month)) (nat_lt d.month 12) refl refl
  where
    y : ℤ
    y = pos d.year

    last_in_month : nat_lt d.day (days_in_month (pos d.year) d.month) ≡ false → d.day ≡ days_in_month (pos d.year) d.month
    last_in_month e = let within = h.day_in.1 in grind (arith, nat_tests)

    at : (b c : Bool) → b ≡ nat_lt d.day (days_in_month (pos d.year) d.month) → c ≡ nat_lt d.month 12
        → IsCounted (suc n) (cond b (record { year = d.year; month = d.month; day = d.day + 1 })
        (cond c (record { year = d.year; month = d.month + 1; day = 1 }) (record { year = d.year + 1; month = 1; day = 1 })))
    at true c e f =
        let before : d.day < days_in_month (pos d.year) d.month = grind (arith, nat_tests) in
        record {
          from = h.from;
          month_in = h.month_in;
          day_in = (omega arith, omega arith);
          count = omega (arith, h.count, day_count-day y d.month d.day (d.day + 1) h.day_in.0 (omega arith));
        }
    at false true e f =
        let last = last_in_month (sym e) in
        let before : d.month < 12 = grind (arith, nat_tests) in
        record {
          from = h.from;
          month_in = (omega arith, omega arith);
          day_in = (omega arith, omega (arith, days_in_month_bounds (pos d.year) (d.month + 1)));
          count = omega (
            arith,
            h.count,
            last,
            day_count-day y d.month d.day 1 h.day_in.0 (omega arith),
            day_count-next_month y d.month h.month_in.0,
          );
        }
    at false false e f =
        let last = last_in_month (sym e) in
        let within = h.month_in.1 in
        let month : d.month ≡ 12 = grind (arith, nat_tests) in
        let day : d.day ≡ 31 = last ∙ december d.year d.month month in
        let here : day_count y 12 31 ≡ 4_368_300 + n =
        subst (λ k. day_count y 12 k ≡ 4_368_300 + n) day (subst (λ m. day_count y m d.day ≡ 4_368_300 + n) month h.count) in
        let from = h.from in
        record {
          from = omega (arith, from);
          month_in = (omega arith, omega arith);
          day_in = (omega arith, omega (arith, days_in_month_bounds (pos (d.year + 1)) 1));
          count = omega (
            arith,
            here,
            day_count-last_of_year y,
            day_count-next_year y (pos (d.year + 1)) (omega (arith, signed_arith)) (omega (arith, signed_arith)),
          );
        }

pub counted : (n : ℕ) → IsCounted n (date_of n)
unfolding date_of
counted zero = record {
  from = omega arith;
  month_in = (omega arith, omega arith);
  day_in = (omega arith, omega (arith, days_in_month_bounds (pos 1960) 1));
  count = day_count-1960;
}
counted (suc n) = next_counted n (date_of n) (counted n)

short_year : (y : ℕ) → 1960 ≤ y → y ≤ 2059 → (y % 100 < 100) × (year_of (y % 100) ≡ y)
short_year y low high = (omega arith, grind (arith, nat_tests))

-- a day's date is not after 2059
below_year : (n : ℕ) (d : CalendarDate) → IsCounted n d → IsDay n → d.year ≤ 2059
below_year n d c h = at (nat_lt 2059 d.year) refl
  where
    at : (b : Bool) → b ≡ nat_lt 2059 d.year → d.year ≤ 2059
    at false e = grind (arith, nat_tests)
    at true e =
        let later : 2059 < d.year = grind (arith, nat_tests) in
        absurd (omega (
          arith,
          day_count-2059,
          c.count,
          h,
          day_count-lt_year (pos 2059) 12 31 (pos d.year) d.month d.day
              (omega (arith, signed_arith), (omega arith, omega arith), (omega arith, omega arith))
              c.day_in.0 (omega (arith, signed_arith)),
        ))

-- the same date as one of the library's
calendar_date : (n : ℕ) (d : CalendarDate) → IsCounted n d → d.year ≤ 2059 → Date
calendar_date n d c upto = record {
  year = pos d.year;
  month = d.month;
  day = d.day;
  year_in = (let from = c.from in omega (arith, signed_arith));
  month_in = c.month_in;
  day_in = c.day_in;
}

-- the date that counting gives is the day's
pub dated : (n : ℕ) → IsDay n → IsDated ((date_of n).year % 100) (date_of n).month (date_of n).day n
unfolding calendar_date
dated n h =
    let c = counted n in
    let d = date_of n in
    let date = calendar_date n d c (below_year n d c h) in
    let short = short_year d.year c.from (below_year n d c h) in
    record {
      year = short.0;
      date = date;
      on = (ap (λ (y : ℕ). pos y) (sym short.1), refl, refl);
      number = omega (arith, signed_arith, days_from_civil-day_count, c.count);
    }

-- and so are its digits
pub stands-yymmdd_of : (n : ℕ) → IsDay n → StandsInYymmdd (yymmdd_of n) n
unfolding yymmdd_of
stands-yymmdd_of n h = record { yy = _; month = _; day = _; spelled = refl; dated = dated n h }

pub stands-ddmmyy_of : (n : ℕ) → IsDay n → StandsInDdmmyy (ddmmyy_of n) n
unfolding ddmmyy_of
stands-ddmmyy_of n h = record { yy = _; month = _; day = _; spelled = refl; dated = dated n h }

-- a day that digits name is one of the hundred years
is_day : (yy month day n : ℕ) → IsDated yy month day n → IsDay n
is_day yy month day n h =
    let years : (1960 ≤ year_of yy) × (year_of yy ≤ 2059) = (let short = h.year in grind (arith, nat_tests)) in
    number_is_day h.date n (rw h.on.0 (omega (arith, signed_arith), omega (arith, signed_arith))) h.number

pub is_day-yymmdd : (columns : List ℕ) (n : ℕ) → StandsInYymmdd columns n → IsDay n
is_day-yymmdd columns n h = is_day _ _ _ n h.dated

pub is_day-ddmmyy : (columns : List ℕ) (n : ℕ) → StandsInDdmmyy columns n → IsDay n
is_day-ddmmyy columns n h = is_day _ _ _ n h.dated

-- and they are the digits that counting gives
pub yymmdd_of-stands : (columns : List ℕ) (n : ℕ) → StandsInYymmdd columns n → columns ≡ yymmdd_of n
yymmdd_of-stands columns n h = one_yymmdd columns (yymmdd_of n) n h (stands-yymmdd_of n (is_day-yymmdd columns n h))

pub ddmmyy_of-stands : (columns : List ℕ) (n : ℕ) → StandsInDdmmyy columns n → columns ≡ ddmmyy_of n
ddmmyy_of-stands columns n h = one_ddmmyy columns (ddmmyy_of n) n h (stands-ddmmyy_of n (is_day-ddmmyy columns n h))
