-- The codes are cloned one by one, and so are a code's columns: they are the same.
use Rattle.cif_columns.proofs.Names.{AreCodes, List, same_from_all_zip, subst, sym, ℕ, ◌∙◌, ◌≡◌}
use Rattle.cif_columns.proofs.activities.Activities.copy.Goals as goal

same : (c : goal.In-Ok) → ◌≡◌ {A = List (List ℕ)} c.in-Ok.codes.items c.self.inside.codes.items
same c = same_from_all_zip _ _ _ c.in-Ok.ensures.cases (λ x y is. same_from_all_zip _ x y is.whole (λ a b e. e))

pub invariant_of-result : goal.invariant_of-result
invariant_of-result c = subst AreCodes (sym (same c)) c.self.invariant

pub returns : goal.returns
returns c = same c ∙ c.self.view_is
