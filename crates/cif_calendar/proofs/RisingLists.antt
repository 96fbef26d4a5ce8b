-- Lists in a strict order: with the same members they are equal.
use Rattle.cif_calendar.proofs.Names.{AllPairs, Contains, Equal, IsTotalOrder, Less, List, Ordering, [], arith, inl, inr, ordering_reverse}
use Rattle.cif_calendar.proofs.Names.{refl, subst, suc, sym, tied_itself, ◌∙◌, ◌∷◌, ◌≡◌, ◌⊎◌}
use Rattle.cif_calendar.proofs.Elements.{Contains-cases, Contains-first, Contains-rest}

-- an empty list has no member
pub Contains-none : {X : Type 0} (x : X) → Contains [] x → ⊥
Contains-none x (k, below, is) = omega arith

-- what holds of the pairs of a list holds of its head with each other member, and of the pairs of its tail
AllPairs-head : {X : Type 0} (R : X → X → Type 0) (x y : X) (xs : List X) → AllPairs R (x ∷ xs) → Contains xs y → R x y
AllPairs-head R x y xs all (k, below, is) = subst (λ z. R x z) is (all 0 (suc k) y (omega arith) (omega arith))

AllPairs-tail : {X : Type 0} (R : X → X → Type 0) (x : X) (xs : List X) → AllPairs R (x ∷ xs) → AllPairs R xs
AllPairs-tail R x xs all i j d less below = all (suc i) (suc j) d (omega arith) (omega arith)

-- two members of a list are one, or what holds of its pairs holds of them in one order or the other
pub AllPairs-members : {X : Type 0} (R : X → X → Type 0) (x y : X) (xs : List X) → AllPairs R xs → Contains xs x → Contains xs y
    → (x ≡ y) ⊎ (R x y ⊎ R y x)
AllPairs-members R x y [] all in_x in_y = absurd (Contains-none x in_x)
AllPairs-members R x y (z ∷ zs) all in_x in_y = elim (Contains-cases z zs x in_x) [
  | inl z_x ↦ elim (Contains-cases z zs y in_y) [
    | inl z_y ↦ inl (sym z_x ∙ z_y)
    | inr later ↦ inr (inl (subst (λ w. R w y) z_x (AllPairs-head R z y zs all later)))
  ]
  | inr later_x ↦ elim (Contains-cases z zs y in_y) [
    | inl z_y ↦ inr (inr (subst (λ w. R w x) z_y (AllPairs-head R z x zs all later_x)))
    | inr later_y ↦ AllPairs-members R x y zs (AllPairs-tail R z zs all) later_x later_y
  ]
]

-- R holds of no two in both orders
abbrev pub IsOneWay : {X : Type 0} → (X → X → Type 0) → Type 0
IsOneWay {X} R = (x y : X) → R x y → R y x → ⊥

module _ {X : Type 0} (R : X → X → Type 0) (one_way : IsOneWay R) where
  -- were the heads two, each would stand in the other's tail, and they would be in order both ways
  heads_equal : (x y : X) (xs ys : List X) → AllPairs R (x ∷ xs) → AllPairs R (y ∷ ys)
      → (y ≡ x) ⊎ Contains ys x → (x ≡ y) ⊎ Contains xs y → x ≡ y
  heads_equal x y xs ys up vp (inl same) other = sym same
  heads_equal x y xs ys up vp (inr in_ys) (inl same) = same
  heads_equal x y xs ys up vp (inr in_ys) (inr in_xs) =
      absurd (one_way x y (AllPairs-head R x y xs up in_xs) (AllPairs-head R y x ys vp in_ys))

  -- a member of one list that comes after its head x is no head of the other list, if that begins with x too
  not_head : (x y z : X) (zs : List X) → x ≡ y → R x z → (y ≡ z) ⊎ Contains zs z → Contains zs z
  not_head x y z zs same after (inr in_zs) = in_zs
  not_head x y z zs same after (inl is) = let loop : R x x = subst (λ w. R x w) (sym (same ∙ is)) after in absurd (one_way x x loop loop)

  -- so such lists with the same members are equal
  pub same_members : (xs ys : List X) → AllPairs R xs → AllPairs R ys
      → ((z : X) → Contains xs z → Contains ys z) → ((z : X) → Contains ys z → Contains xs z) → xs ≡ ys
  same_members [] [] up vp forth back = refl
  same_members [] (y ∷ ys) up vp forth back = absurd (Contains-none y (back y (Contains-first y ys)))
  same_members (x ∷ xs) [] up vp forth back = absurd (Contains-none x (forth x (Contains-first x xs)))
  same_members (x ∷ xs) (y ∷ ys) up vp forth back =
      let heads : x ≡ y = heads_equal x y xs ys up vp
      (Contains-cases y ys x (forth x (Contains-first x xs))) (Contains-cases x xs y (back y (Contains-first y ys))) in
      let tails : xs ≡ ys = same_members xs ys (AllPairs-tail R x xs up) (AllPairs-tail R y ys vp)
      (λ z in_xs. not_head x y z ys heads (AllPairs-head R x z xs up in_xs)
      (Contains-cases y ys z (forth z (Contains-rest x xs z in_xs))))
      (λ z in_ys. not_head y x z xs (sym heads) (AllPairs-head R y z ys vp in_ys)
      (Contains-cases x xs z (back z (Contains-rest y ys z in_ys)))) in
      cc

-- a total order is one way
module _ {K : Type 0} (cmp : K → K → Ordering) (total : IsTotalOrder cmp) where
  reversed_less : (o : Ordering) → o ≡ Less → ordering_reverse o ≡ Less → ⊥
  reversed_less o e f = let g : ordering_reverse Less ≡ Less = subst (λ v. ordering_reverse v ≡ Less) e f in cc

  pub less_one_way : IsOneWay (λ x y. cmp x y ≡ Less)
  less_one_way x y up down = reversed_less (cmp y x) down (sym (total.antisymm x y) ∙ up)

  -- and none is less than itself
  pub not_less : (x y : K) → x ≡ y → cmp x y ≡ Less → ⊥
  not_less x y same less =
      let itself : cmp x x ≡ Equal = tied_itself total x in
      let again : cmp x x ≡ Less = subst (λ z. cmp x z ≡ Less) (sym same) less in
      cc
