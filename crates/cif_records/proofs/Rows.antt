-- Facts of the rows of a table, and of the steps that put them, one after another.
use Rattle.cif_records.proofs.Names.{List, ap, put, ℕ, ◌∙◌, ◌≡◌}

infixr 5 ◌&◌
-- a fact, and those of the rows behind it
pub ◌&◌ : {A B : Type 0} → A → B → A × B
a & b = (a, b)

-- a step that puts columns, with the columns before it known
pub onto : {old mid new : List ℕ} (part : List ℕ) → new ≡ put mid part → mid ≡ old → new ≡ put old part
onto part is before = is ∙ ap (λ (l : List ℕ). put l part) before
