-- `fails` is false exactly if each column so far of each fifth is as the test wants it.
use Rattle.cif_columns.proofs.Names.{false, ℕ, ◌<◌, ◌↔◌, ◌≡◌}
use Rattle.cif_columns.proofs.LineFifths.{AreMet}
use Rattle.cif_columns.proofs.plain_test.has_all.Given as goal

abbrev pub invariant-loop-i : goal.invariant-loop-i
invariant-loop-i l = (l.fails ≡ false) ↔ ((k : ℕ) → k < l.i → AreMet l.test l.columns k)
