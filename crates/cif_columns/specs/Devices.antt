-- What a device's contract may say about its errors.
use Rattle.std.specs.Prelude.{◌≡◌, ℕ, ◌+◌, ◌-◌, ◌^◌, nat_lt, if◌then◌else◌, Option, None, Some, IsSomeAnd, IfSome, Result, MatchResult}

-- a count of errors, where it is known, has grown by one
abbrev pub OneError : Option ℕ → Option ℕ → Type 0
OneError old new = IfSome new (λ n. IsSomeAnd old (λ m. n ≡ m + 1))

-- an error adds one to the count of errors, where that is known, and nothing else changes it
abbrev pub CountsErrors : {A E : Type 0} → Option ℕ → Option ℕ → Result A E → Type 0
CountsErrors old new r = MatchResult r (λ _. new ≡ old) (λ _. OneError old new)

-- a count of errors that stops at `u64::MAX` is known below that
abbrev pub known_count : ℕ → Option ℕ
known_count n = if nat_lt n (2 ^ 64 - 1) then Some n else None
