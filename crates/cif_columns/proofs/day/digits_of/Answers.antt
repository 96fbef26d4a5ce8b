-- Each pair of the table has the digits of its place (`are_pairs`, which computes).
use Rattle.cif_columns.proofs.Names.{Bool, T, arith, eq-zero-or-pos, eqb, eqb→eq, get_or, inl, inr, suc, true, zero, ℕ, ◌%◌, ◌&&◌, ◌*◌, ◌+◌}
use Rattle.cif_columns.{proofs.Names.◌-◌, proofs.Names.◌/◌, proofs.Names.◌<◌, proofs.Names.◌≡◌, specs.declared.day.TheConstants.PAIRS}
use lib.Ieee.Fits.{and_l, and_r}
use Rattle.cif_columns.proofs.day.digits_of.Goals as goal

abbrev are_pairs : ℕ → Bool
are_pairs zero = true
are_pairs (suc n) = (eqb (get_or PAIRS (n * 2) 0) (48 + n / 10) && eqb (get_or PAIRS (n * 2 + 1) 0) (48 + n % 10)) && are_pairs n

pair-at : (most n : ℕ) → T (are_pairs most) → n < most → (get_or PAIRS (n * 2) 0 ≡ 48 + n / 10) × (get_or PAIRS (n * 2 + 1) 0 ≡ 48 + n % 10)
pair-at zero n are below = absurd (omega arith)
pair-at (suc most) n are below =
    elim (eq-zero-or-pos (most - n)) [
      | inl last ↦
          let is : n ≡ most = omega arith in
          let both = and_l _ (are_pairs most) are in
          rw is (eqb→eq _ _ (and_l _ _ both), eqb→eq _ _ (and_r _ _ both))
      | inr before ↦ pair-at most n (and_r _ (are_pairs most) are) (omega arith)
    ]

pub returns : goal.returns
returns c = let pair = pair-at 100 c.args.n tt c.requires in rw (pair.0, pair.1)
