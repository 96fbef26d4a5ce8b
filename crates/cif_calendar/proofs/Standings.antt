-- Who leads on each weekday, as more members are looked at.
use Rattle.cif_calendar.proofs.Names.{Applies, AreBelow, Combines, IsBelow, IsChosen, Leader, List, LooksAt, Nobody, Some, Standing, Stands}
use Rattle.cif_calendar.proofs.Names.{Terms, [], ap, arith, cases_lt, false, get_or, get_or-replicate, get_or-set_other, get_or_past, inl}
use Rattle.cif_calendar.proofs.Names.{inr, length-set, refl, replicate, set, set-get_or, slice_get, slice_get-get_or, subst, sym, true}
use Rattle.cif_calendar.proofs.Names.{weekday_of, ℕ, ⊎_elim, ◌++◌, ◌+◌, ◌<◌, ◌∙◌, ◌∷◌, ◌≡◌, ◌≢◌, ◌≤◌, ◌⊎◌}
use Rattle.std.proofs.lemmas.Grind.{get_or-set_at}
use Rattle.cif_calendar.proofs.Winning.{nobody-combines, one-leads, one-none}

-- The weekdays one by one: each before k has had a step, and the others are as they were.
module _ (step : ℕ → Standing → Standing → Type 0) (n : ℕ) (old : List Standing) where
  pub record AreStepped (k : ℕ) (new : List Standing) : Type 0 where
    pub below : AreBelow n new
    pub each : (w : ℕ) → w < k → step w (get_or old w Nobody) (get_or new w Nobody)
    pub rest : (w : ℕ) → k ≤ w → get_or new w Nobody ≡ get_or old w Nobody

  -- one weekday more
  module _ (k : ℕ) (new : List Standing) (below : k < 7) (l : AreStepped k new) where
    -- weekday w is that one, or stays as it was
    at : (s : Standing) (w : ℕ) → ((k ≡ w) × (get_or (set new k s) w Nobody ≡ s))
        ⊎ ((k ≢ w) × (get_or (set new k s) w Nobody ≡ get_or new w Nobody))
    at s w = ⊎_elim
        (λ less. inr (λ e. omega arith, get_or-set_other new k w s Nobody (λ e. omega arith)))
        (λ more. ⊎_elim
        (λ over. inr (λ e. omega arith, get_or-set_other new k w s Nobody (λ e. omega arith)))
        (λ upto. inl (omega arith, get_or-set_at new k w s Nobody (omega arith) (omega (arith, l.below.seven))))
        (cases_lt k w))
        (cases_lt w k)

    pub stepped : (j : ℕ) (s : Standing) → j ≡ k → IsBelow n s → step k (get_or new k Nobody) s → AreStepped (k + 1) (set new j s)
    stepped j s is in_range h = rw is (record {
      below = record {
        seven = length-set new k s ∙ l.below.seven;
        below = λ w. ⊎_elim (λ here. rw here.1 in_range) (λ apart. rw apart.1 (l.below.below w)) (at s w);
      };
      each = λ w upto. ⊎_elim
          (λ here. rw here.1 (subst (λ v. step v (get_or old v Nobody) s) here.0 (rw (l.rest k (omega arith)) at h)))
          (λ apart. rw apart.1 (l.each w (omega (arith, apart.0))))
          (at s w);
      rest = λ w over. get_or-set_other new k w s Nobody (λ e. omega arith) ∙ l.rest w (omega arith);
    })

    pub stepped-same : step k (get_or new k Nobody) (get_or new k Nobody) → AreStepped (k + 1) new
    stepped-same h = subst (AreStepped (k + 1)) (set-get_or new k Nobody) (stepped k (get_or new k Nobody) refl (l.below.below k) h)

nobody-at : (w : ℕ) → get_or (replicate 7 Nobody) w Nobody ≡ Nobody
nobody-at w = ⊎_elim
    (λ below. get_or-replicate 7 w Nobody Nobody below)
    (λ past. get_or_past (replicate 7 Nobody) w Nobody (omega arith))
    (cases_lt w 7)

-- one standing on each weekday
pub below-same : (n : ℕ) (s : Standing) → IsBelow n s → AreBelow n (replicate 7 s)
below-same n s h = record {
  seven = refl;
  below = λ w. ⊎_elim
      (λ below. subst (IsBelow n) (sym (get_or-replicate 7 w s Nobody below)) h)
      (λ past. subst (IsBelow n) (sym (get_or_past (replicate 7 s) w Nobody (omega arith))) tt)
      (cases_lt w 7);
}

-- where no member is looked at, nobody stands
pub stands-none : {B : Type 0} (xs : List (Terms B)) (members : List ℕ) (d w : ℕ) →
    Stands xs members (IsChosen xs []) d (get_or (replicate 7 Nobody) w Nobody)
stands-none xs members d w = subst (λ (s : Standing). Stands xs members (IsChosen xs []) d s) (sym (nobody-at w))
    (record { none = λ s c on. let (k, below, is) = c.member in absurd (omega arith) })

-- the record r, which the member with number k has, is looked at on day d too
module _ {B : Type 0} (xs : List (Terms B)) (members looked : List ℕ) (k i : ℕ) (r : Terms B) (member : slice_get members k ≡ Some i)
    (at : slice_get xs i ≡ Some r) (d : ℕ) (old : Standing) (h : Stands xs members (IsChosen xs looked) d old) where
  pub stands-skip : (Applies r d → ⊥) → Stands xs members (IsChosen xs (looked ++ i ∷ [])) d old
  stands-skip off = (nobody-combines xs members old).stands looked (i ∷ []) d h (one-none xs i r at d off)

  pub stands-more : (new : Standing) → r.first ≤ d → d ≤ r.last →
      LooksAt xs members r.days (replicate 7 (Leader k)) (weekday_of d) old new → Stands xs members (IsChosen xs (looked ++ i ∷ [])) d new
  stands-more new begun unfinished l = ⊎_elim
      (λ on. on.1.stands looked (i ∷ []) d h
      (subst (Stands xs members (IsChosen xs (i ∷ [])) d) (sym (get_or-replicate 7 (weekday_of d) (Leader k) Nobody (omega arith)))
      (one-leads xs members k i r d member at (record { begun = begun; unfinished = unfinished; on_weekday = on.0 }))))
      (λ off. subst (λ (s : Standing). Stands xs members (IsChosen xs (looked ++ i ∷ [])) d s) (sym off.1)
      (stands-skip (λ on. off.0 on.on_weekday)))
      l

-- looked at on all weekdays
pub looked-all : {B : Type 0} (xs : List (Terms B)) (members : List ℕ) (others : List Standing) (w : ℕ) (s u : Standing) → w < 7 →
    LooksAt xs members (replicate 7 true) others w s u → Combines xs members s (get_or others w Nobody) u
looked-all xs members others w s u below l = ⊎_elim
    (λ on. on.1)
    (λ off. absurd (off.0 (slice_get-get_or (replicate 7 true) w false below ∙ ap Some (get_or-replicate 7 w true false below))))
    l
