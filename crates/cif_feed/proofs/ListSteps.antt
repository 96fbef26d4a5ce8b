-- Elements of lists: those that are mapped, numbered, or filtered, and those of two and of three lists, one by one.
use Rattle.cif_feed.proofs.Names.{All, ArePairs, AreTriples, Bool, Contains, Contains-cases, Contains-first, Contains-none, Contains-rest}
use Rattle.cif_feed.proofs.Names.{List, [], ap, arith, cond, enumerate_from, false, filter, get_or-map, length, length-map, map, refl}
use Rattle.cif_feed.proofs.Names.{subst, suc, sym, true, ℕ, ⊎_elim, ◌++◌, ◌+◌, ◌<◌, ◌↔◌, ◌∙◌, ◌∷◌, ◌≡◌, ◌≢◌}

module _ {A B : Type 0} (f : A → B) where
  pub Contains-map : (xs : List A) (x : A) → Contains xs x → Contains (map f xs) (f x)
  Contains-map [] x has = absurd (Contains-none x has)
  Contains-map (y ∷ ys) x has = ⊎_elim
      (λ is. subst (λ z. Contains (f y ∷ map f ys) (f z)) is (Contains-first (f y) (map f ys)))
      (λ rest. Contains-rest (f y) (map f ys) (f x) (Contains-map ys x rest))
      (Contains-cases y ys x has)

  pub Contains-from_map : (xs : List A) (z : B) → Contains (map f xs) z → (x : A) × Contains xs x × (f x ≡ z)
  Contains-from_map [] z has = absurd (Contains-none z has)
  Contains-from_map (y ∷ ys) z has = ⊎_elim
      (λ is. (y, Contains-first y ys, is))
      (λ rest. let (x, other, is) = Contains-from_map ys z rest in (x, Contains-rest y ys x other, is))
      (Contains-cases (f y) (map f ys) z has)

  pub All-from_map : (P : B → Type 0) (xs : List A) → All P (map f xs) → All (λ x. P (f x)) xs
  All-from_map P xs p =
      λ k d below. subst P (get_or-map f xs k d (f d) below) (p k (f d) (subst (λ n. k < n) (sym (length-map xs f)) below))

pub iff-by : {P Q R : Type 0} → P ↔ R → Q ↔ R → P ↔ Q
iff-by p q = (λ x. q.1 (p.0 x), λ x. p.1 (q.0 x))

-- those that pass a test of what they are mapped to
pub filter-map : {A B : Type 0} (p : B → Bool) (f : A → B) (xs : List A) → filter p (map f xs) ≡ map f (filter (λ x. p (f x)) xs)
filter-map p f [] = refl
filter-map p f (x ∷ xs) = at (p (f x)) (filter-map p f xs)
  where
    at : (b : Bool) → filter p (map f xs) ≡ map f (filter (λ y. p (f y)) xs) → cond b (f x ∷ filter p (map f xs)) (filter p (map f xs))
        ≡ map f (cond b (x ∷ filter (λ y. p (f y)) xs) (filter (λ y. p (f y)) xs))
    at true more = ap (λ l. f x ∷ l) more
    at false more = more

-- ---- elements with their numbers

module _ {A : Type 0} where
  -- others behind them
  pub enumerate_append : (n : ℕ) (xs ys : List A) → enumerate_from n (xs ++ ys) ≡ enumerate_from n xs ++ enumerate_from (n + length xs) ys
  enumerate_append n [] ys = ap (λ (k : ℕ). enumerate_from k ys) (omega arith)
  enumerate_append n (x ∷ xs) ys =
      ap (λ l. (n, x) ∷ l) (enumerate_append (n + 1) xs ys
      ∙ ap (λ (k : ℕ). enumerate_from (n + 1) xs ++ enumerate_from k ys) (omega arith))

  without_numbers : (n : ℕ) (xs : List A) → map (λ (x : ℕ × A). x.1) (enumerate_from n xs) ≡ xs
  without_numbers n [] = refl
  without_numbers n (x ∷ xs) = ap (λ l. x ∷ l) (without_numbers (n + 1) xs)

  -- those that pass a test, without their numbers
  pub enumerate_filter : (p : A → Bool) (n : ℕ) (xs : List A)
      → map (λ (x : ℕ × A). x.1) (filter (λ (x : ℕ × A). p x.1) (enumerate_from n xs)) ≡ filter p xs
  enumerate_filter p n xs = sym (filter-map p (λ (x : ℕ × A). x.1) (enumerate_from n xs)) ∙ ap (filter p) (without_numbers n xs)

-- ---- elements of two and of three lists

module _ {A B : Type 0} (P : A → B → Type 0) where
  -- the last of both
  pub pairs_last : (xs : List A) (ys : List B) (x : A) (y : B) → ArePairs P (xs ++ x ∷ []) (ys ++ y ∷ []) → ArePairs P xs ys × P x y
  pairs_last [] [] x y p = (tt, p.0)
  pairs_last [] (z ∷ []) x y p = absurd p.1
  pairs_last [] (z ∷ w ∷ ys) x y p = absurd p.1
  pairs_last (z ∷ []) [] x y p = absurd p.1
  pairs_last (z ∷ w ∷ xs) [] x y p = absurd p.1
  pairs_last (z ∷ xs) (w ∷ ys) x y p =
      let more = pairs_last xs ys x y p.1 in ((p.0, more.0), more.1)

  -- there are as many of both
  pub pairs_some : (xs : List A) (x : A) (ys : List B) → ArePairs P (xs ++ x ∷ []) ys → ys ≢ []
  pairs_some [] x [] p is = absurd p
  pairs_some (z ∷ xs) x [] p is = absurd p
  pairs_some xs x (y ∷ ys) p is = cc

  -- others behind them
  pub pairs-append : (xs : List A) (ys : List B) (zs : List A) (ws : List B) → ArePairs P xs ys → ArePairs P zs ws
      → ArePairs P (xs ++ zs) (ys ++ ws)
  pairs-append [] [] zs ws p q = q
  pairs-append (x ∷ xs) (y ∷ ys) zs ws p q = (p.0, pairs-append xs ys zs ws p.1 q)
  pairs-append _ _ zs ws p q = absurd p

  pub pairs-length : (xs : List A) (ys : List B) → ArePairs P xs ys → length xs ≡ length ys
  pairs-length [] [] p = refl
  pairs-length (x ∷ xs) (y ∷ ys) p = ap suc (pairs-length xs ys p.1)
  pairs-length _ _ p = absurd p

  module _ {C : Type 0} (f : A → C) where
    -- what is said of the others by what the first are mapped to
    pub pairs-mapped : (Q : B → C → Type 0) → ((x : A) (y : B) → P x y → Q y (f x)) → (xs : List A) (ys : List B) → ArePairs P xs ys
        → ArePairs Q ys (map f xs)
    pairs-mapped Q so [] [] p = tt
    pairs-mapped Q so (x ∷ xs) (y ∷ ys) p = (so x y p.0, pairs-mapped Q so xs ys p.1)
    pairs-mapped Q so _ _ p = absurd p

    module _ {D : Type 0} where
      -- and of third ones, that the others are mapped to,
      pub triples-of : (g : B → D) (T : B → C → D → Type 0) → ((x : A) (y : B) → P x y → T y (f x) (g y)) → (xs : List A) (ys : List B)
          → ArePairs P xs ys → AreTriples T ys (map f xs) (map g ys)
      triples-of g T so [] [] p = tt
      triples-of g T so (x ∷ xs) (y ∷ ys) p = (so x y p.0, triples-of g T so xs ys p.1)
      triples-of g T so _ _ p = absurd p

      -- or that are mapped to them,
      pub triples-by : (g : B → D) (T : D → C → B → Type 0) → ((x : A) (y : B) → P x y → T (g y) (f x) y) → (xs : List A) (ys : List B)
          → ArePairs P xs ys → AreTriples T (map g ys) (map f xs) ys
      triples-by g T so [] [] p = tt
      triples-by g T so (x ∷ xs) (y ∷ ys) p = (so x y p.0, triples-by g T so xs ys p.1)
      triples-by g T so _ _ p = absurd p

      -- or that are made of both
      pub triples-said : (M : B → C → D → Type 0) (S : A → D → Type 0) → ((x : A) (y : B) (z : D) → P x y → M y (f x) z → S x z)
          → (xs : List A) (ys : List B) (zs : List D) → ArePairs P xs ys → AreTriples M ys (map f xs) zs → ArePairs S xs zs
      triples-said M S so [] [] [] p q = tt
      triples-said M S so (x ∷ xs) (y ∷ ys) (z ∷ zs) p q = (so x y z p.0 q.0, triples-said M S so xs ys zs p.1 q.1)
      triples-said M S so [] [] (z ∷ zs) p q = absurd q
      triples-said M S so (x ∷ xs) (y ∷ ys) [] p q = absurd q
      triples-said M S so _ _ zs p q = absurd p
