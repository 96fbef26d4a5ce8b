-- What decides among the schedules of two lists, of which the first go before the others.
use Rattle.cif_feed.proofs.Names.{List, [], ap, arith, drop, get_or, inl, inr, length, map, map-append, refl, sym, take, take-append-drop, ℕ}
use Rattle.cif_feed.proofs.Names.{⊎_elim, ◌++◌, ◌<◌, ◌∙◌, ◌∷◌, ◌≡◌, ◌≤◌}
use Rattle.cif_weeks.specs.{Window.Window, declared.form.Run.Run}
use Rattle.cif_feed.specs.Steps.Deciding.{AreShown, DecidesAmong, IsFirstOf, ShowsOn}

module _ (applies : ℕ → ℕ → Type 0) where
  pub among-both : (ps qs : List ℕ) (n i : ℕ) → DecidesAmong applies (ps ++ qs) n i
      → IsFirstOf (DecidesAmong applies ps) (DecidesAmong applies qs) n i
  among-both [] qs n i d = inr (λ j none. none, d)
  among-both (p ∷ ps) qs n i (inl here) = inl (inl here)
  among-both (p ∷ ps) qs n i (inr (free, d)) = ⊎_elim
      (λ first. inl (inr (free, first)))
      (λ other. inr (λ j one. ⊎_elim (λ here. free here.0) (λ later. other.0 j later.1) one, other.1))
      (among-both ps qs n i d)

  pub both-among : (ps qs : List ℕ) (n i : ℕ) → IsFirstOf (DecidesAmong applies ps) (DecidesAmong applies qs) n i
      → DecidesAmong applies (ps ++ qs) n i
  both-among [] qs n i (inl none) = absurd none
  both-among [] qs n i (inr other) = other.1
  both-among (p ∷ ps) qs n i (inl (inl here)) = inl here
  both-among (p ∷ ps) qs n i (inl (inr (free, d))) = inr (free, both-among ps qs n i (inl d))
  both-among (p ∷ ps) qs n i (inr (none, d)) =
      inr (λ on. none p (inl (on, refl)), both-among ps qs n i (inr (λ j later. none j (inr (λ on. none p (inl (on, refl)), later)), d)))

  -- the runs of both lists show what decides among all
  pub both-shown : (window : Window) (ps qs : List ℕ) (before after runs : List Run)
      → AreShown window (DecidesAmong applies ps) before → AreShown window (DecidesAmong applies qs) after
      → AreShown window (IsFirstOf (ShowsOn before) (ShowsOn after)) runs → AreShown window (DecidesAmong applies (ps ++ qs)) runs
  both-shown window ps qs before after runs first other shown = record {
    rising = shown.rising;
    have_form = shown.have_form;
    say = λ n i within.
        let say = shown.say n i within in (
          λ decides. say.0 (⊎_elim
              (λ one. inl ((first.say n i within).0 one))
              (λ two. inr (λ j shows. two.0 j ((first.say n j within).1 shows), (other.say n i within).0 two.1))
              (among-both ps qs n i decides)),
          λ shows. both-among ps qs n i (⊎_elim
              (λ one. inl ((first.say n i within).1 one))
              (λ two. inr (λ j decides. two.0 j ((first.say n j within).0 decides), (other.say n i within).1 two.1))
              (say.1 shows)),
        );
  }

-- a list of one position
pub one-position : (ranked : List (ℕ × ℕ)) → 1 ≤ length ranked → length ranked < 2 → (d : ℕ × ℕ)
    → (get_or ranked 0 d).1 ∷ [] ≡ map (λ (p : ℕ × ℕ). p.1) ranked
one-position [] some few d = absurd (omega (arith, some))
one-position (p ∷ []) some few d = refl
one-position (p ∷ q ∷ ranked) some few d = absurd (omega (arith, few))

-- two lists of positions that are one
pub split-positions : (ranked front back : List (ℕ × ℕ)) (k : ℕ) → front ≡ take k ranked → back ≡ drop k ranked
    → map (λ (p : ℕ × ℕ). p.1) front ++ map (λ (p : ℕ × ℕ). p.1) back ≡ map (λ (p : ℕ × ℕ). p.1) ranked
split-positions ranked front back k front_is back_is =
    sym (map-append (λ (p : ℕ × ℕ). p.1) front back)
    ∙ ap (map (λ (p : ℕ × ℕ). p.1)) (ap (λ (l : List (ℕ × ℕ)). l ++ back) front_is
    ∙ (ap (λ (l : List (ℕ × ℕ)). take k ranked ++ l) back_is ∙ take-append-drop k ranked))
