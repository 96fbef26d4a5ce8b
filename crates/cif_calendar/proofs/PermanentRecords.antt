-- Records that are all permanent.
use Rattle.cif_calendar.proofs.Names.{Applies, AreLawful, C, IsSome, P, Records, Terms, Wins, ap, arith, letter, sym, true≢false, ℕ, ◌∙◌}
use Rattle.cif_calendar.proofs.Names.{◌≡◌}

module _ {B : Type 0} (records : Records B) where
  -- each that applies wins
  pub Wins-permanent : ((r : Terms B) → records r → r.letter ≡ P) → (d : ℕ) (r : Terms B) → records r → Applies r d → Wins records d r
  Wins-permanent permanent d r in' on = record {
    listed = in';
    applies = on;
    least = λ s also _. let e : letter r.letter ≡ letter s.letter = ap letter (permanent r in' ∙ sym (permanent s also)) in omega arith;
  }

  -- if each has a body, they are lawful
  pub AreLawful-permanent : ((r : Terms B) → records r → (r.letter ≡ P) × IsSome r.body) → AreLawful records
  AreLawful-permanent permanent = record {
    cancelled = λ r in'. (
      λ none. absurd (true≢false (sym (permanent r in').1 ∙ none)),
      λ c. absurd (let no : P ≡ C = sym (permanent r in').0 ∙ c in cc),
    );
  }
