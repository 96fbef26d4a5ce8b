-- The days with a clash, one after another.
use Rattle.cif_calendar.proofs.Names.{AddsIfDisputed, AreClashDates, Contains, Contains-append_left, Contains-get_or, Contains-push}
use Rattle.cif_calendar.proofs.Names.{Contains-push_cases, Disputed, IsClash, IsClashBetween, IsClear, Leader, List, Nobody, Records}
use Rattle.cif_calendar.proofs.Names.{Standing, Stands, Terms, [], all_pairs_push, arith, cases_lt, get_or, refl, subst, sym, ℕ, ⊎_elim}
use Rattle.cif_calendar.proofs.Names.{◌++◌, ◌+◌, ◌<◌, ◌∙◌, ◌∷◌, ◌≡◌, ◌≤◌}

-- ---- one day

module _ {B : Type 0} (xs : List (Terms B)) (members : List ℕ) (records : Records B) (d : ℕ) where
  disputed : (k : ℕ) → Stands xs members records d (Disputed k) → IsClash records d
  disputed k (t, at, is) = record { one = t; other = is.rival; one_wins = is.wins; other_wins = is.rival_wins; bodies_differ = is.apart }

  pub undisputed : (s : Standing) → ((k : ℕ) → s ≡ Disputed k → ⊥) → Stands xs members records d s → IsClear records d
  undisputed Nobody never none = record { agree = λ r s r_wins s_wins. absurd (none.none r r_wins.listed r_wins.applies) }
  undisputed (Leader k) never (t, at, leads) =
      record { agree = λ r s r_wins s_wins. sym (leads.undisputed r r_wins) ∙ leads.undisputed s s_wins }
  undisputed (Disputed k) never stands = absurd (never k refl)

-- ---- one after another

module _ {B : Type 0} (records : Records B) (first to : ℕ) (days : List ℕ) (so_far : AreClashDates records first to days) where
  -- those up to the one before `next` are clear
  pub dates-none : (next : ℕ) → to ≤ next → ((d : ℕ) → to ≤ d → d < next → IsClear records d) → AreClashDates records first next days
  dates-none next up none = record {
    rising = so_far.rising;
    are = λ d. (
      λ has. let is = (so_far.are d).0 has in
          let before = is.before in record { from = is.from; before = omega arith; clash = is.clash },
      λ is. ⊎_elim
          (λ early. (so_far.are d).1 (record { from = is.from; before = early; clash = is.clash }))
          (λ late. let c = is.clash in
          absurd (c.bodies_differ ((none d late is.before).agree c.one c.other c.one_wins c.other_wins)))
          (cases_lt d to),
    );
    clear = λ d from before lacks. ⊎_elim (λ early. so_far.clear d from early lacks) (λ late. none d late before) (cases_lt d to);
  }

  dates-push : first ≤ to → IsClash records to → AreClashDates records first (to + 1) (days ++ to ∷ [])
  dates-push up clash = record {
    rising = all_pairs_push ◌<◌ days to so_far.rising
        (λ k d below. ((so_far.are (get_or days k d)).0 (Contains-get_or days k d below)).before);
    are = λ d. (
      λ has. ⊎_elim
          (λ old. let is = (so_far.are d).0 old in
          let before = is.before in record { from = is.from; before = omega arith; clash = is.clash })
          (λ here. subst (λ n. IsClashBetween records first (to + 1) n) here (record { from = up; before = omega arith; clash = clash }))
          (Contains-push_cases days to d has),
      λ is. ⊎_elim
          (λ early. Contains-append_left days (to ∷ []) d ((so_far.are d).1 (record { from = is.from; before = early; clash = is.clash })))
          (λ late. let before = is.before in let at : to ≡ d = omega arith in
          subst (λ n. Contains (days ++ to ∷ []) n) at (Contains-push days to))
          (cases_lt d to),
    );
    clear = λ d from before lacks. ⊎_elim
        (λ early. so_far.clear d from early (λ has. lacks (Contains-append_left days (to ∷ []) d has)))
        (λ late. let at : to ≡ d = omega arith in
        absurd (lacks (subst (λ n. Contains (days ++ to ∷ []) n) at (Contains-push days to))))
        (cases_lt d to);
  }

  -- one day more, by what stands on it
  pub dates-more : (xs : List (Terms B)) (members : List ℕ) → first ≤ to → (s : Standing) → Stands xs members records to s
      → (more : List ℕ) → AddsIfDisputed s to days more → AreClashDates records first (to + 1) more
  dates-more xs members up (Disputed k) stands more is = rw is (dates-push up (disputed xs members records to k stands))
  dates-more xs members up (Leader k) stands more is = rw is (dates-none (to + 1) (omega arith)
      (λ d from below. let at : to ≡ d = omega arith in
      subst (IsClear records) at (undisputed xs members records to (Leader k) (λ j e. cc) stands)))
  dates-more xs members up Nobody stands more is = rw is (dates-none (to + 1) (omega arith)
      (λ d from below. let at : to ≡ d = omega arith in
      subst (IsClear records) at (undisputed xs members records to Nobody (λ j e. cc) stands)))
