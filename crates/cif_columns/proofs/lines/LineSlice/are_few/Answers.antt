-- They are kept in no fewer bytes (`few_lines`).
use Rattle.cif_columns.proofs.Names.{List, arith, length, subst, ℕ, ◌<◌, ◌^◌}
use Rattle.cif_columns.proofs.KeptLines.{few_lines}
use Rattle.cif_columns.proofs.lines.LineSlice.are_few.Goals as goal

pub returns : goal.returns
returns c =
    let few = few_lines c.self.inside.kept.now in
    let told = c.self.told in
    subst (λ (lines : List (List ℕ)). length lines < 2 ^ 63) c.self.view_is (omega (arith, few, told))
