-- Each step adds what its five tests say, and sixteen steps see each column (`each_of_fifths`).
use Rattle.cif_columns.proofs.Names.{All-from_get_or, All-get_or, IsPrintable, arith, get_or, ℕ, ◌+◌, ◌≡◌}
use Rattle.cif_columns.proofs.EachOfFifths.{InFifths, all_five, all_more, each_of_fifths}
use Rattle.cif_columns.proofs.line.are_line_columns.Goals as goal

pub loop-i-preserved : goal.loop-i-preserved
loop-i-preserved c =
    let P : ℕ → Type 0 = λ n. IsPrintable (get_or c.args.columns.now n 0) in
    all_more c.loop-i.all _ (InFifths P) c.loop-i.i c.loop-i.invariant
    (all_five _ _ _ _ _ P c.loop-i.i c.is_printable.ensures c.is_printable-in-loop-i.ensures
    c.is_printable-in-loop-i-2.ensures c.is_printable-in-loop-i-3.ensures c.is_printable-in-loop-i-4.ensures)

pub returns : goal.returns
returns c =
    let columns = c.args.columns.now in
    let end : c.loop-i.i ≡ 16 = omega (arith, c.loop-i-test.false, c.loop-i.auto.i-end) in (
      (λ yes. All-from_get_or IsPrintable columns 0 (λ k lt.
          each_of_fifths _ (λ n l. c.loop-i.invariant.0 yes n (omega (arith, end, l))) k (omega (arith, lt, c.told-columns)))),
      (λ h. c.loop-i.invariant.1 (λ k lt. record {
        first = All-get_or IsPrintable columns k 0 (omega (arith, lt, end, c.told-columns)) h;
        second = All-get_or IsPrintable columns (16 + k) 0 (omega (arith, lt, end, c.told-columns)) h;
        third = All-get_or IsPrintable columns (32 + k) 0 (omega (arith, lt, end, c.told-columns)) h;
        fourth = All-get_or IsPrintable columns (48 + k) 0 (omega (arith, lt, end, c.told-columns)) h;
        fifth = All-get_or IsPrintable columns (64 + k) 0 (omega (arith, lt, end, c.told-columns)) h;
      })),
    )
