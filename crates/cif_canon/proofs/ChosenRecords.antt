-- The elements that a test chooses, and their lines.
use Rattle.cif_canon.proofs.Names.{All-contains, All-contains_itself, All-filter, Bool, Contains, Contains-cases, Contains-first}
use Rattle.cif_canon.proofs.Names.{Contains-none, Contains-rest, List, [], ap, cond, cond_both, false, false≢true, filter, filter_passes}
use Rattle.cif_canon.proofs.Names.{flat_map, if◌then◌else◌, map, refl, subst, sym, true, ℕ, ⊎_elim, ◌++◌, ◌∙◌, ◌∷◌, ◌≡◌}

module _ {X : Type 0} (test : X → Bool) where
  -- the chosen elements are those that pass the test
  pub chosen-from : (xs : List X) (x : X) → Contains (filter test xs) x → Contains xs x × (test x ≡ true)
  chosen-from xs x h = (
    All-contains (Contains xs) (filter test xs) x (All-filter test (Contains xs) xs (All-contains_itself xs)) h,
    All-contains (λ y. test y ≡ true) (filter test xs) x (filter_passes test xs) h,
  )

  pub chosen : (xs : List X) (x : X) → Contains xs x → test x ≡ true → Contains (filter test xs) x
  chosen [] x h passes = absurd (Contains-none x h)
  chosen (y ∷ xs) x h passes = ⊎_elim
      (λ is. cond_both (test y) (y ∷ filter test xs) (filter test xs) (λ (zs : List X). Contains zs x)
      (λ yes. subst (λ z. Contains (y ∷ filter test xs) z) is (Contains-first y (filter test xs)))
      (λ no. absurd (false≢true (sym no ∙ ap test is ∙ passes))))
      (λ later. let there = chosen xs x later passes in
      cond_both (test y) (y ∷ filter test xs) (filter test xs) (λ (zs : List X). Contains zs x)
      (λ yes. Contains-rest y (filter test xs) x there) (λ no. there))
      (Contains-cases y xs x h)

  -- their lines are what there is to write of all
  pub chosen-text : {Y : Type 0} (part : X → Y) (line : Y → List ℕ) (xs : List X) →
      flat_map (λ x. if test x then line (part x) else []) xs ≡ flat_map line (map part (filter test xs))
  chosen-text part line [] = refl
  chosen-text {Y = Y} part line (x ∷ xs) =
      ap (λ (l : List ℕ). (if test x then line (part x) else []) ++ l) (chosen-text part line xs) ∙ same (test x)
    where
      same : (b : Bool) → (if b then line (part x) else []) ++ flat_map line (map part (filter test xs))
          ≡ flat_map line (map part (cond b (x ∷ filter test xs) (filter test xs)))
      same true = refl
      same false = refl
