-- A piece that a trial reader gives is consumed, and its failures are counted.
use Rattle.cif_columns.proofs.Names.{Bool, Err, IfSome, IsSomeAnd, List, None, Ok, OneError, ReadConsumes, Result, Some, ap, arith, cond}
use Rattle.cif_columns.proofs.Names.{false, length, ltb-true, min, nat_lt, nat_tests, refl, sym, take-append-le, known_count, true, ℕ, ◌++◌}
use Rattle.cif_columns.proofs.Names.{◌+◌, ◌-◌, ◌<◌, ◌^◌, ◌∙◌, ◌≡◌}
use Rattle.std.specs.Io.{ReadsAtMost}

-- what a slice gives to the front of a buffer is consumed, if there is room in front where there is some
module _ {E : Type 0} (rest left piece more : List ℕ) (room : 0 < length (piece ++ more) → 0 < length piece) where
  known : (r : Result ℕ E) → ReadsAtMost r piece → ReadConsumes (Some rest) (Some left) r piece
      → ReadConsumes (Some rest) (Some left) r (piece ++ more)
  known (Ok n) few gave = (gave.0 ∙ ap (λ l. l ++ left) (sym (take-append-le n piece more few.0)), λ zero some. gave.1 zero (room some))
  known (Err e) few gave = gave

-- one failure more
pub one_more : (n m : ℕ) → m ≡ min (n + 1) (2 ^ 64 - 1) → OneError (known_count n) (known_count m)
one_more n m e = at (nat_lt m (2 ^ 64 - 1)) refl
  where
    at : (b : Bool) → nat_lt m (2 ^ 64 - 1) ≡ b → IfSome (cond b (Some m) None) (λ k. IsSomeAnd (known_count n) (λ j. k ≡ j + 1))
    at false test = tt
    at true test =
        let below = ltb-true m (2 ^ 64 - 1) test in
        let told : nat_lt n (2 ^ 64 - 1) ≡ true = grind (arith, nat_tests) in
        rw told (omega (arith, below))
