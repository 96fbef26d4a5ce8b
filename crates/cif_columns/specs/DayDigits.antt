-- The six digits of a day, from its date by counting on from 1 January 1960.
use Rattle.std.specs.Prelude.{ℕ, zero, suc, ◌+◌, ◌%◌, List, ◌++◌, pos, nat_lt, if◌then◌else◌}
use Rattle.jiff.specs.Words.{days_in_month}
use Rattle.cif_columns.specs.Digits.{two_digits}

-- a date of the Gregorian calendar
pub record CalendarDate : Type 0 where
  pub year : ℕ
  pub month : ℕ
  pub day : ℕ

-- the date after a date: in its month, or the first of the next month, or the first of the next year
abbrev pub next_date : CalendarDate → CalendarDate
next_date d =
    if nat_lt d.day (days_in_month (pos d.year) d.month) then record { year = d.year; month = d.month; day = d.day + 1 }
    else (if nat_lt d.month 12 then record { year = d.year; month = d.month + 1; day = 1 }
    else record { year = d.year + 1; month = 1; day = 1 })

-- the date of the day with this number
unfoldable pub date_of : ℕ → CalendarDate
date_of zero = record { year = 1960; month = 1; day = 1 }
date_of (suc n) = next_date (date_of n)

-- its digits in the order year, month, day
unfoldable pub yymmdd_of : ℕ → List ℕ
yymmdd_of n = two_digits ((date_of n).year % 100) ++ two_digits (date_of n).month ++ two_digits (date_of n).day

-- its digits in the order day, month, year
unfoldable pub ddmmyy_of : ℕ → List ℕ
ddmmyy_of n = two_digits (date_of n).day ++ two_digits (date_of n).month ++ two_digits ((date_of n).year % 100)
