-- Lists that are joined, and lists that are mapped.
use Rattle.cif_weeks.proofs.Names.{All-append, AllPairs, AllPairs-cons, AllZip, Contains, Contains-first, Contains-get_or, Contains-rest}
use Rattle.cif_weeks.proofs.Names.{List, Some, [], ap, arith, get_or, length, map, refl, same_Some, slice_get, subst, suc, zero, ℕ, ◌++◌}
use Rattle.cif_weeks.proofs.Names.{◌<◌, ◌∷◌, ◌≡◌}
use Rattle.std.proofs.lemmas.List.Elements.{All-map}

module _ {X Y : Type 0} (f : X → Y) where
  -- the members of a list that is mapped
  pub Contains-map : (xs : List X) (x : X) → Contains xs x → Contains (map f xs) (f x)
  Contains-map [] x h = absurd (omega (arith, h.1))
  Contains-map (z ∷ xs) x (zero, below, is) = (zero, omega arith, ap f is)
  Contains-map (z ∷ xs) x (suc i, below, is) = let (j, less, at) = Contains-map xs x (i, omega arith, is) in (suc j, omega arith, at)

  pub Contains-from_map : (xs : List X) (y : Y) → Contains (map f xs) y → (x : X) × Contains xs x × (f x ≡ y)
  Contains-from_map [] y h = absurd (omega (arith, h.1))
  Contains-from_map (z ∷ xs) y (zero, below, is) = (z, (zero, omega arith, refl), is)
  Contains-from_map (z ∷ xs) y (suc i, below, is) =
      let (x, (j, less, at), same) = Contains-from_map xs y (i, omega arith, is) in (x, (suc j, omega arith, at), same)

  pub AllPairs-map : (R : Y → Y → Type 0) (xs : List X) → AllPairs (λ x y. R (f x) (f y)) xs → AllPairs R (map f xs)
  AllPairs-map R [] p = λ i j d less within. absurd (omega arith)
  AllPairs-map R (x ∷ xs) p =
      AllPairs-cons R (f x) (map f xs)
      (All-map (R (f x)) f xs (λ k d below. p zero (suc k) d (omega arith) (omega arith)))
      (AllPairs-map R xs (λ i j d less within. p (suc i) (suc j) d (omega arith) (omega arith)))

-- two lists in an order, each element of one before each of the other
pub AllPairs-append : {X : Type 0} (R : X → X → Type 0) (xs ys : List X) → AllPairs R xs → AllPairs R ys →
    ((x y : X) → Contains xs x → Contains ys y → R x y) → AllPairs R (xs ++ ys)
AllPairs-append R [] ys p q cross = q
AllPairs-append R (x ∷ xs) ys p q cross =
    AllPairs-cons R x (xs ++ ys)
    (All-append (R x) xs ys (λ k d below. p zero (suc k) d (omega arith) (omega arith))
    (λ k d below. cross x (get_or ys k d) (zero, omega arith, refl) (Contains-get_or ys k d below)))
    (AllPairs-append R xs ys (λ i j d less within. p (suc i) (suc j) d (omega arith) (omega arith)) q
    (λ v w h i. cross v w (suc h.0, (let l : h.0 < length xs = h.1 in omega arith), h.2) i))

-- lists that go together one by one, and others after them
pub AllZip-append : {X Y : Type 0} (R : X → Y → Type 0) (xs us : List X) (ys vs : List Y) → AllZip R xs ys → AllZip R us vs →
    AllZip R (xs ++ us) (ys ++ vs)
AllZip-append R [] us [] vs h k = k
AllZip-append R (x ∷ xs) us (y ∷ ys) vs h k = (h.0, AllZip-append R xs us ys vs h.1 k)
AllZip-append _ _ _ _ _ h _ = absurd h

-- lists that go together, the other way round
pub zip-back : {X Y : Type 0} (R : X → Y → Type 0) (us : List X) (vs : List Y) → AllZip R us vs → AllZip (λ v u. R u v) vs us
zip-back R [] [] z = tt
zip-back R (u ∷ us) (v ∷ vs) z = (z.0, zip-back R us vs z.1)
zip-back _ _ _ z = absurd z

-- what goes with the item at a place
pub zip-at : {X Y : Type 0} (R : X → Y → Type 0) (us : List X) (vs : List Y) → AllZip R us vs → (k : ℕ) (u : X) →
    slice_get us k ≡ Some u → (v : Y) × (slice_get vs k ≡ Some v) × R u v
zip-at R [] vs z k u at = absurd (cc)
zip-at R (w ∷ us) [] z k u at = absurd z
zip-at R (w ∷ us) (v ∷ vs) z zero u at = (v, refl, subst (λ x. R x v) (same_Some w u at) z.0)
zip-at R (w ∷ us) (v ∷ vs) z (suc k) u at = zip-at R us vs z.1 k u at

-- where R holds, S does too
pub zip-with : {X Y : Type 0} (R S : X → Y → Type 0) (us : List X) (vs : List Y) → ((u : X) (v : Y) → Contains us u → R u v → S u v) →
    AllZip R us vs → AllZip S us vs
zip-with R S [] [] also z = tt
zip-with R S (u ∷ us) (v ∷ vs) also z =
    (also u v (Contains-first u us) z.0, zip-with R S us vs (λ w x listed. also w x (Contains-rest u us w listed)) z.1)
zip-with _ _ _ _ _ z = absurd z

-- the items of one list are mapped
pub zip-map : {X Y Z : Type 0} (f : X → Z) (R : Z → Y → Type 0) (us : List X) (vs : List Y) → AllZip (λ u v. R (f u) v) us vs →
    AllZip R (map f us) vs
zip-map f R [] [] z = tt
zip-map f R (u ∷ us) (v ∷ vs) z = (z.0, zip-map f R us vs z.1)
zip-map _ _ _ _ z = absurd z
