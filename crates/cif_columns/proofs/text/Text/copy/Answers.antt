-- The bytes are cloned one by one: they are the same.
use Rattle.cif_columns.proofs.Names.{IsText, List, same_from_all_zip, subst, sym, ℕ, ◌∙◌, ◌≡◌}
use Rattle.cif_columns.proofs.text.Text.copy.Given.{Over}
use Rattle.cif_columns.proofs.text.Text.copy.Goals as goal

same : (g : Over) (c : goal.In-Ok g) → ◌≡◌ {A = List ℕ} c.in-Ok.bytes.items c.self.inside.bytes.items
same g c = same_from_all_zip _ _ _ c.in-Ok.ensures.cases (λ x y is. is)

pub invariant_of-result : goal.invariant_of-result
invariant_of-result g c = subst IsText (sym (same g c)) c.self.invariant

pub returns : goal.returns
returns g c = same g c ∙ c.self.view_is
