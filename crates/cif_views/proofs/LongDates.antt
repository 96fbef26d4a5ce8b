-- The date so many days after the library's first is the one that counting gives.
use Rattle.cif_views.proofs.Names.{ap, arith, ℕ, ◌+◌, ◌<◌, ◌≡◌, ◌≤◌}
use Rattle.std.specs.Prelude.{Bool, false, nat_lt, pos, true, ◌+ℤ◌}
use Rattle.cif_columns.proofs.{DayDigits.IsCounted, DayDigits.counted}
use Rattle.std.proofs.lemmas.Int.{by_lt_z}
use Rattle.cif_columns.proofs.Names.{days_from_civil-day_count, nat_tests, refl}
use Rattle.jiff_core.specs.Calendar.{day_count}
use Rattle.jiff_core.proofs.CalendarLemmas.{day_count-day_of_year, day_count-end, day_count-later_year}
use Rattle.jiff_core.proofs.DateLemmas.{epoch_day_injective}
use Rattle.jiff_core.proofs.SignedLemmas.{signed_arith}
use Rattle.jiff.specs.{Types.Date, Words.IsBetween, Words.epoch_day}
unfoldable use Rattle.cif_columns.specs.DayDigits.{date_of}

-- no day of the year 10000 or of a later one comes before that year
late : (y m d : ℕ) → 1 ≤ d → 10000 ≤ y → 7_304_850 ≤ day_count (pos y) m d
late y m d day from =
    by_lt_z (pos 10000) (pos y)
    (λ lt. omega (
      arith,
      day_count-end,
      day_count-later_year (pos 10000) (pos y) (omega (arith, signed_arith)) lt,
      day_count-day_of_year (pos y) m d day,
    ))
    (λ le. let e : pos y ≡ pos 10000 = omega (arith, signed_arith) in
    omega (arith, day_count-end, ap (λ z. day_count z 1 1) e, day_count-day_of_year (pos y) m d day))

-- the year has four digits
upto-9999 : (n : ℕ) → n ≤ 2936549 → (date_of n).year ≤ 9999
upto-9999 n upto = at (nat_lt 9999 (date_of n).year) refl
  where
    at : (b : Bool) → b ≡ nat_lt 9999 (date_of n).year → (date_of n).year ≤ 9999
    at false e = grind (arith, nat_tests)
    at true e =
        let later : 10000 ≤ (date_of n).year = grind (arith, nat_tests) in
        let c = counted n in
        absurd (omega (arith, c.count, upto, late (date_of n).year (date_of n).month (date_of n).day c.day_in.0 later))

made : (n : ℕ) → n ≤ 2936549 → Date
made n upto =
    let c = counted n in
    record {
      year = pos (date_of n).year;
      month = (date_of n).month;
      day = (date_of n).day;
      year_in = (let from = c.from in let to = upto-9999 n upto in omega (arith, signed_arith));
      month_in = c.month_in;
      day_in = c.day_in;
    }

pub date-is : (n : ℕ) (date : Date) → n ≤ 2936549 → epoch_day date +ℤ pos 4_371_587 ≡ pos (n + 4_367_934) →
    (date.year ≡ pos (date_of n).year) × (date.month ≡ (date_of n).month) × (date.day ≡ (date_of n).day)
unfolding made
date-is n date upto e =
    let c = counted n in
    epoch_day_injective date (made n upto) (omega (arith, signed_arith, days_from_civil-day_count, c.count))

pub four-digits : (n : ℕ) (date : Date) → n ≤ 2936549 → epoch_day date +ℤ pos 4_371_587 ≡ pos (n + 4_367_934) →
    IsBetween (pos 1960) (pos 9999) date.year
four-digits n date upto e =
    let (year, _, _) = date-is n date upto e in
    let from = (counted n).from in
    let to = upto-9999 n upto in
    rw year (omega (arith, signed_arith), omega (arith, signed_arith))
