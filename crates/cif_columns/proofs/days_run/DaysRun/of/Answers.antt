-- The number is made of seven bits, of which `flags-seven` has the flags.
use Rattle.cif_columns.proofs.Names.{ap, arith, cond, false, flags, get_or, length, refl, rules, ℕ, ◌*◌, ◌+◌, ◌∙◌, ◌≡◌}
use Rattle.cif_columns.proofs.Flags.{flags-seven}
use Rattle.cif_columns.proofs.days_run.DaysRun.of.Goals as goal

pub returns : goal.returns
returns c =
    let width : length c.args.days ≡ 7 = search rules in
    let bit : ℕ → ℕ = λ k. cond (get_or c.args.days k false) 1 0 in
    let is : c.with_bit-5.result ≡ 2 * (2 * (2 * (2 * (2 * (2 * bit 6 + bit 5) + bit 4) + bit 3) + bit 2) + bit 1) + bit 0 = omega arith in
    ap flags is ∙ flags-seven c.args.days width _ _ _ _ _ _ _ refl refl refl refl refl refl refl
