-- Hours and minutes, which working and public times share.
use Rattle.std.specs.Prelude.{◌≡◌, ℕ, ◌+◌, ◌-◌, ◌*◌, ◌<◌, Bool, ◌&&◌, ◌==◌, nat_lt, List, ◌++◌, Option, None, Some, if◌then◌else◌}
use Rattle.std.specs.{Char.is_ascii_digit, List.list_all}
use Rattle.cif_columns.specs.Digits.{number_at, two_digits}

-- HHMM: two digits of an hour up to 23 and two of a minute up to 59
pub record IsHourMinute (columns : List ℕ) : Type 0 where
  pub hour : ℕ
  pub minute : ℕ
  pub hour_in : hour < 24
  pub minute_in : minute < 60
  pub spelled : columns ≡ two_digits hour ++ two_digits minute

-- whether these four columns are an hour and a minute
abbrev pub is_clock : ℕ → ℕ → ℕ → ℕ → Bool
is_clock a b c d =
    (is_ascii_digit a && is_ascii_digit b && is_ascii_digit c && is_ascii_digit d)
    && nat_lt ((a - 48) * 10 + (b - 48)) 24 && nat_lt ((c - 48) * 10 + (d - 48)) 60

-- whether all columns are spaces
abbrev pub is_blank : List ℕ → Bool
is_blank columns = list_all (λ c. c == 32) columns

-- a number that is below the limit
abbrev pub below : ℕ → Option ℕ → Option ℕ
below limit (Some n) = if nat_lt n limit then Some n else None
below limit None = None

-- the seconds from midnight to this hour and minute
abbrev pub seconds_to : Option ℕ → Option ℕ → Option ℕ
seconds_to (Some hour) (Some minute) = if nat_lt hour 24 && nat_lt minute 60 then Some (hour * 3600 + minute * 60) else None
seconds_to hour minute = None

-- those to the HHMM with which the columns begin
abbrev pub clock_seconds : List ℕ → Option ℕ
clock_seconds columns = seconds_to (number_at 0 columns) (number_at 2 columns)
