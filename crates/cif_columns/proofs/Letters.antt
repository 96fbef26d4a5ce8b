-- Letters of short-term planning and the indicators that they stand for.
use Rattle.cif_columns.proofs.Names.{P, Some, Stp, stp_in, sym, ℕ, ◌∙◌, ◌≡◌}
use Rattle.cif_columns.specs.Stp.{StandsIn}

-- what stands in the column is found there
pub stp_in-stands : (column : ℕ) (stp : Stp) → StandsIn column stp → stp_in column ≡ Some stp
stp_in-stands column P e = rw e
stp_in-stands column _ e = rw e

-- one indicator stands in a column
pub one_indicator : (column : ℕ) (a b : Stp) → StandsIn column a → StandsIn column b → a ≡ b
one_indicator column a b s t =
    let found : Some a ≡ Some b = sym (stp_in-stands column a s) ∙ stp_in-stands column b t in
    cc
