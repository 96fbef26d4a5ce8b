-- Which members are known to have one body.
use Rattle.cif_calendar.proofs.Names.{AreAlike, HaveOneBody, List, None, Option, Some, StandsAt, Terms, arith, cases_lt, get_or}
use Rattle.cif_calendar.proofs.Names.{get_or-replicate, get_or_past, length, length-replicate, max, min, replicate, same_Some, subst, sym}
use Rattle.cif_calendar.proofs.Names.{ℕ, ⊎_elim, ◌<◌, ◌↔◌, ◌∙◌, ◌≡◌, ◌⊎◌}
use Rattle.cif_calendar.proofs.Winning.{body-at}

module _ {B : Type 0} (xs : List (Terms B)) (members : List ℕ) where
  -- at first nothing is known
  pub alike-none : AreAlike xs members (replicate (length members) None)
  alike-none k j is = absurd (let none : None ≡ Some j = sym (⊎_elim
      (λ below. get_or-replicate (length members) k None None below)
      (λ past. get_or_past (replicate (length members) None) k None (omega (arith, length-replicate {A = Option ℕ} (length members) None)))
      (cases_lt k (length members))) ∙ is in cc)

  -- what is noted is known
  pub alike-noted : (old new : List (Option ℕ)) (number earlier : ℕ) → HaveOneBody xs members number earlier →
      ((k : ℕ) → (get_or new k None ≡ get_or old k None) ⊎ ((k ≡ number) × (get_or new k None ≡ Some earlier))) →
      AreAlike xs members old → AreAlike xs members new
  alike-noted old new number earlier same noted a k j is = ⊎_elim
      (λ kept. a k j (sym kept ∙ is))
      (λ here. subst (λ n. HaveOneBody xs members n j) (sym here.0)
      (subst (λ n. HaveOneBody xs members number n) (same_Some earlier j (sym here.1 ∙ is)) same))
      (noted k)

  -- a link leads to a member with the same body, so both still have one body exactly if they had before
  pub falling-next : (number next earlier one other : ℕ) (P : Type 0) → HaveOneBody xs members number next → one ≡ max next earlier →
      other ≡ min next earlier → (HaveOneBody xs members number earlier ↔ P) → HaveOneBody xs members one other ↔ P
  falling-next number next earlier one other P same greater less both = ⊎_elim
      (λ (below : next < earlier).
      let first : one ≡ earlier = omega arith in
      let second : other ≡ next = omega arith in
      rw (first, second) (λ h. both.0 (same ∙ sym h), λ p. sym (both.1 p) ∙ same))
      (λ from.
      let first : one ≡ next = omega arith in
      let second : other ≡ earlier = omega arith in
      rw (first, second) (λ h. both.0 (same ∙ h), λ p. sym same ∙ both.1 p))
      (cases_lt next earlier)

  -- what a test of two members' bodies tells
  pub one-body : (k j : ℕ) (t u : Terms B) (P : Type 0) → StandsAt xs members k t → StandsAt xs members j u → (P ↔ (t.body ≡ u.body)) →
      P ↔ HaveOneBody xs members k j
  one-body k j t u P at also is = let x = body-at xs members k t at in let y = body-at xs members j u also in
      (λ p. x ∙ is.0 p ∙ sym y, λ h. is.1 (sym x ∙ h ∙ y))
