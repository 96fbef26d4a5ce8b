-- Columns that pass a test of bytes of lines are a line.
use Rattle.cif_columns.proofs.Names.{IsLine, IsPrintable, List, Passes, PlainTest, and_parts, arith, asks_printable, get_or_default, inl}
use Rattle.cif_columns.proofs.Names.{inr, length, subst, sym, true, ℕ, ◌<◌, ◌≡◌, ◌≤◌, ◌⊎◌}
use Rattle.cif_columns.proofs.PrintableBytes.{printable_fact}

in_range : (least most also b : ℕ) → IsPrintable least → IsPrintable most → IsPrintable also
    → ((least ≤ b) × (b ≤ most)) ⊎ (b ≡ also) → IsPrintable b
in_range least most also b l m a (inl h) =
    let (from, to) = h in
    let (low, _) = l in
    let (_, high) = m in
    (omega (arith, from, low), omega (arith, to, high))
in_range least most also b l m a (inr same) = subst IsPrintable (sym same) a

pub line_by_test : (t : PlainTest) (line : List ℕ) → length line ≡ 80 → length t.least ≡ 80 → length t.most ≡ 80
    → length t.also ≡ 80 → Passes t line → asks_printable t ≡ true → IsLine line
line_by_test t line wide wide_least wide_most wide_also passes h =
    let both = and_parts _ _ h in
    let ranges = and_parts _ _ both.0 in
    record {
      width = wide;
      printable = λ k d lt.
          let below : k < 80 = omega (arith, wide, lt) in
          subst IsPrintable (get_or_default line k 0 d lt)
          (in_range _ _ _ _ (printable_fact t.least ranges.0 k 0 (omega (arith, wide_least, below)))
          (printable_fact t.most ranges.1 k 0 (omega (arith, wide_most, below)))
          (printable_fact t.also both.1 k 0 (omega (arith, wide_also, below))) (passes.in_range k below));
    }
