-- One value stands in columns of a kind of field.
use Rattle.cif_columns.proofs.Names.{Bool, List, Some, Stp, [], date, exactly, indicator, letter, refl, stp_in, sym, text, weekdays, ℕ, ◌∙◌}
use Rattle.cif_columns.{proofs.Names.◌∷◌, proofs.Names.◌≡◌, proofs.Texts.one_text, specs.Field.StandsIn}
use Rattle.cif_columns.proofs.{DayColumns.yymmdd_in-stands, Letters.one_indicator as one_letter, Letters.stp_in-stands, Masks.one_mask}

pub one_exactly : (columns a b : List ℕ) → StandsIn columns (exactly a) → StandsIn columns (exactly b) → a ≡ b
one_exactly columns a b p q = sym p ∙ q

pub one_text_value : (columns a b : List ℕ) → StandsIn columns (text a) → StandsIn columns (text b) → a ≡ b
one_text_value columns a b p q = one_text columns a b p q

pub one_date_value : (columns : List ℕ) (a b : ℕ) → StandsIn columns (date a) → StandsIn columns (date b) → a ≡ b
one_date_value columns a b p q = let same = sym (yymmdd_in-stands columns a p) ∙ yymmdd_in-stands columns b q in cc

pub one_weekdays : (columns : List ℕ) (a b : List Bool) → StandsIn columns (weekdays a) → StandsIn columns (weekdays b) → a ≡ b
one_weekdays columns a b p q = one_mask columns a b p q

-- the indicator of an indicator's letter
pub stp_in-letter : (stp : Stp) → stp_in (letter stp) ≡ Some stp
stp_in-letter stp = stp_in-stands (letter stp) stp refl

pub one_indicator : (columns : List ℕ) (a b : Stp) → StandsIn columns (indicator a) → StandsIn columns (indicator b) → a ≡ b
one_indicator columns a b p q =
    let same : letter a ∷ [] ≡ letter b ∷ [] = sym p ∙ q in
    one_letter (letter a) a b refl (cc)
