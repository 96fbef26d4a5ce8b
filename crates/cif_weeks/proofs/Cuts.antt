-- A list that is cut at a partition point: what is known of the elements before it and of those from it on.
use Rattle.cif_weeks.proofs.Names.{Contains, IsPartitionPoint, List, ap, arith, cases_lt, drop, get_or, get_or-drop, get_or-take, inl, inr}
use Rattle.cif_weeks.proofs.Names.{length, length-drop, length-take, subst, sym, take, ℕ, ⊎_elim, ◌+◌, ◌-◌, ◌<◌, ◌∙◌, ◌≡◌, ◌≤◌, ◌⊎◌}

module _ {X : Type 0} (xs : List X) (i : ℕ) where
  pub Contains-take : (x : X) → Contains (take i xs) x → (k : ℕ) × (k < i) × (k < length xs) × (get_or xs k x ≡ x)
  Contains-take x (k, below, is) =
      let sooner : k < i = omega (arith, length-take i xs) in
      (k, sooner, omega (arith, length-take i xs), sym (get_or-take i xs k x sooner) ∙ is)

  pub Contains-drop : (x : X) → Contains (drop i xs) x → (k : ℕ) × (i ≤ k) × (k < length xs) × (get_or xs k x ≡ x)
  Contains-drop x (k, below, is) = (i + k, omega arith, omega (arith, length-drop i xs), sym (get_or-drop i xs k x) ∙ is)

  pub take-contains : (x : X) (k : ℕ) → k < i → k < length xs → get_or xs k x ≡ x → Contains (take i xs) x
  take-contains x k sooner below is = (k, omega (arith, length-take i xs), get_or-take i xs k x sooner ∙ is)

  pub drop-contains : (x : X) (k : ℕ) → i ≤ k → k < length xs → get_or xs k x ≡ x → Contains (drop i xs) x
  drop-contains x k from below is =
      let same : i + (k - i) ≡ k = omega arith in
      (k - i, omega (arith, length-drop i xs), get_or-drop i xs (k - i) x ∙ ap (λ j. get_or xs j x) same ∙ is)

  module _ (P Q : X → Type 0) (point : IsPartitionPoint P Q xs i) where
    pub cut-first : (x : X) → Contains (take i xs) x → Contains xs x × P x
    cut-first x h = let (k, sooner, below, is) = Contains-take x h in ((k, below, is), subst P is (point.0 k x (omega arith) sooner))

    pub cut-rest : (x : X) → Contains (drop i xs) x → Contains xs x × Q x
    cut-rest x h = let (k, from, below, is) = Contains-drop x h in ((k, below, is), subst Q is (point.1 k x from below))

    pub cut-cases : (x : X) → Contains xs x → (Contains (take i xs) x × P x) ⊎ (Contains (drop i xs) x × Q x)
    cut-cases x (k, below, is) = ⊎_elim
        (λ sooner. inl (take-contains x k sooner below is, subst P is (point.0 k x (omega arith) sooner)))
        (λ from. inr (drop-contains x k from below is, subst Q is (point.1 k x from below)))
        (cases_lt k i)
