-- `all` is true exactly if each byte so far of each fifth may stand in a line.
use Rattle.cif_columns.proofs.Names.{IsPrintable, IsTrue, slice_index, ℕ, ◌<◌, ◌↔◌}
use Rattle.cif_columns.proofs.EachOfFifths.{InFifths}
use Rattle.cif_columns.proofs.line.are_line_columns.Given as goal

abbrev pub invariant-loop-i : goal.invariant-loop-i
invariant-loop-i l = IsTrue l.all ↔ ((k : ℕ) → k < l.i → InFifths (λ n. IsPrintable (slice_index l.columns n)) k)
