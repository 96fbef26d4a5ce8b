-- Clashes by positions, and their names one after another.
use Rattle.cif_calendar.proofs.Names.{HasKey, KeyClash, List, Some, Terms, [], ap, append-nil, append_assoc, flat_map, flat_map-append}
use Rattle.cif_calendar.proofs.Names.{get_or, length, map, named, named_if, option_map, sym, take, take_all, take_more, ℕ, ◌++◌, ◌+◌, ◌<◌}
use Rattle.cif_calendar.{proofs.Names.◌∙◌, proofs.Names.◌∷◌, proofs.Names.◌≡◌, proofs.Names.◌≤◌, specs.Clashes.key_and_day}
use Rattle.std.proofs.{lemmas.List.Concat.flat_map_single, lemmas.List.Folds.flat_map-map}
use Rattle.cif_extract.specs.declared.fault.Clash.{Clash}

module _ {K B : Type 0} (name : K → ℕ → Clash) (es : List (K × Terms B)) (known : List Clash) (found : List KeyClash) where
  -- the name of a clash, by the key at its position
  named-one : (clash : KeyClash) (k : K) → HasKey es clash.position k → named name es clash ≡ name k clash.day ∷ []
  named-one clash k has = ap (λ o. named_if name (option_map (λ (e : K × Terms B). (e.0, clash.day)) o)) has.at

  -- one more
  pub named-more : (n : ℕ) (all more : List Clash) (clash : KeyClash) (k : K) → n < length found → clash ≡ get_or found n clash →
      HasKey es clash.position k → all ≡ known ++ flat_map (named name es) (take n found) → more ≡ all ++ (name k clash.day ∷ []) →
      more ≡ known ++ flat_map (named name es) (take (n + 1) found)
  named-more n all more clash k below is has so_far added =
      let one : take (n + 1) found ≡ take n found ++ (clash ∷ []) =
      take_more found n clash below ∙ ap (λ c. take n found ++ (c ∷ [])) (sym is) in
      added ∙ ap (λ (l : List Clash). l ++ (name k clash.day ∷ [])) so_far
      ∙ append_assoc known (flat_map (named name es) (take n found)) (name k clash.day ∷ [])
      ∙ ap (λ (l : List Clash). known ++ l)
      (sym (ap (flat_map (named name es)) one ∙ flat_map-append (named name es) (take n found) (clash ∷ [])
      ∙ ap (λ (l : List Clash). flat_map (named name es) (take n found) ++ l)
      (append-nil (named name es clash) ∙ named-one clash k has)))

  -- all of them
  pub named-all : (keys : List (K × ℕ)) → map (key_and_day es) found ≡ map Some keys → (n : ℕ) → length found ≤ n →
      (all : List Clash) → all ≡ known ++ flat_map (named name es) (take n found) →
      all ≡ known ++ map (λ (k : K × ℕ). name k.0 k.1) keys
  named-all keys stand_for n over all so_far =
      so_far ∙ ap (λ (l : List Clash). known ++ l)
      (ap (flat_map (named name es)) (take_all n found over)
      ∙ sym (flat_map-map (named_if name) (key_and_day es) found)
      ∙ ap (flat_map (named_if name)) stand_for
      ∙ flat_map-map (named_if name) Some keys
      ∙ flat_map_single (λ (k : K × ℕ). name k.0 k.1) keys)
