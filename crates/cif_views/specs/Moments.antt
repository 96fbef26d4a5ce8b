-- When a train is at its calls. A moment is counted in whole seconds, from a midnight so long before the one at which the schedule's
-- date begins that no moment of a journey is before it.
use Rattle.std.specs.Prelude.{◌≡◌, ℕ, ◌+◌, ◌-◌, ◌*◌, ◌/◌, ◌%◌, ◌^◌, ◌<◌, ◌≤◌, List, ◌∷◌, ◌++◌, codes, decimal, nat_lt, if◌then◌else◌}
use Rattle.cif_columns.specs.Digits.{two_digits}

-- the seconds of a day
abbrev pub day : ℕ
day = 86400

-- the midnight at which the schedule's date begins
abbrev pub midnight : ℕ
midnight = day * 2 ^ 64

-- m has this time of day, and lies in the day that begins at `from`
pub record IsInDayFrom (from seconds m : ℕ) : Type 0 where
  pub time_of_day : m % day ≡ seconds
  pub not_before : from ≤ m
  pub within : m < from + day

-- m is the next moment after p with this time of day. Up to an hour before p it is a slip of the timetable, and no new day.
abbrev pub IsNext : ℕ → ℕ → ℕ → Type 0
IsNext p seconds m = IsInDayFrom (p - 3600) seconds m

-- m is the moment of a public time: the nearest one to the moment at which the train is there
abbrev pub IsNearest : ℕ → ℕ → ℕ → Type 0
IsNearest there seconds m = IsInDayFrom (there - 43200) seconds m

-- the moment with this time of day in the day that begins at `from`
abbrev pub in_day_from : ℕ → ℕ → ℕ
in_day_from from seconds = from + (seconds + day - from % day) % day

-- a time as HH:MM:SS, where the hours go on past 24
abbrev pub two_digits_or_more : ℕ → List ℕ
two_digits_or_more n = if nat_lt n 10 then codes "0" ++ decimal n else decimal n

abbrev pub time_text : ℕ → List ℕ
time_text seconds =
    two_digits_or_more (seconds / 3600)
    ++ ((58 ∷ two_digits (seconds / 60 % 60)) ++ (58 ∷ two_digits (seconds % 60)))

-- Where a journey can be after so many moments: each leads back by an hour at most, and on by a day. And where it can be at all.
pub record IsBy (n m : ℕ) : Type 0 where
  pub late : midnight ≤ m + 3600 * n
  pub early : m ≤ midnight + day * n

pub record IsOnTheWay (m : ℕ) : Type 0 where
  pub late : day ≤ m
  pub early : m < day * 2 ^ 100
