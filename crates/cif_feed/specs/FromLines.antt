-- Facts of the elements of two and of three lists, one by one.
use Rattle.std.specs.Prelude.{List, [], ◌∷◌}

-- P of the first of both, of the second of both and so on; there are as many of both
abbrev pub ArePairs : {A B : Type 0} → (A → B → Type 0) → List A → List B → Type 0
ArePairs P [] [] = Unit {0}
ArePairs P [] (y ∷ ys) = ⊥
ArePairs P (x ∷ xs) [] = ⊥
ArePairs P (x ∷ xs) (y ∷ ys) = P x y × ArePairs P xs ys

-- P of the first of all three, of the second and so on; there are as many of each
abbrev pub AreTriples : {A B C : Type 0} → (A → B → C → Type 0) → List A → List B → List C → Type 0
AreTriples P [] [] [] = Unit {0}
AreTriples P (x ∷ xs) (y ∷ ys) (z ∷ zs) = P x y z × AreTriples P xs ys zs
AreTriples P xs ys zs = ⊥
