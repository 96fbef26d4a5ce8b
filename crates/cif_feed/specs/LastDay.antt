-- The last day that there is.
use Rattle.std.specs.Prelude.{ℕ}

-- 31 December 2059, which stands for an open end: no day is after it
abbrev pub last_day : ℕ
last_day = 36524
