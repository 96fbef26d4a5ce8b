-- A record starts with one week, and grows by the next week where the two agree.
use Rattle.cif_weeks.proofs.Names.{Bool, Fits, Form, IsByWeeks, IsGrown, IsLastDay, IsMask, IsWithin, List, MasksAgree, One, Permanent}
use Rattle.cif_weeks.proofs.Names.{RunsOn, Three, Two}
use Rattle.cif_weeks.proofs.Names.{Window, ap, arith, cases_lt, inl, inr, length, refl, subst, sym, week_of, weekday_of, ℕ, ◌+◌, ◌-◌, ◌↔◌}
use Rattle.cif_weeks.proofs.{Masks.last_latest, Masks.last_runs, Masks.mask_runs, Names.◌∙◌, Names.◌≡◌, Names.◌≤◌, Names.◌⊎◌}
use Rattle.cif_weeks.proofs.WeekDays.{RunsOn-below, day_rises, week_of-next, weekday_of-next}

module _ (window : Window) (on : ℕ → Type 0) where
  start_fits : (form : Form) → IsByWeeks form → (days : List Bool) (week : ℕ) → IsMask on week days → Fits form window on days week
  start_fits Three by days week m = absurd by
  start_fits One by days week m = m
  start_fits Two by days week m = record { shows = m.shows; full = λ n at within has. mask_runs on week days n m at has }

module _ {B : Type 0} (window : Window) (on : ℕ → Type 0) (inside : (n : ℕ) → on n → IsWithin window n) where
  -- a record of one week, from the first day to the last on which its body runs there
  pub grown_start : (form : Form) → IsByWeeks form → (r : Permanent B) → IsMask on (week_of r.first) r.days
      → IsLastDay (week_of r.first) r.days r.last → on r.first
      → ((n : ℕ) → week_of n ≡ week_of r.first → on n → r.first ≤ n) → IsGrown form window on r
  grown_start form by r m l runs earliest =
      let one : week_of r.last ≡ week_of r.first = l.in_week in
      record {
        seven = m.seven;
        in_order = omega arith;
        first_runs = runs;
        last_runs = last_runs on (week_of r.first) r.days r.last m l;
        earliest = earliest;
        latest = λ n at runs_n. last_latest on (week_of r.first) r.days r.last n m l (at ∙ one) runs_n;
        used = λ w has. let (n, at, day, runs_n) = m.only w has in (n, day, omega arith, omega arith, runs_n);
        fits = λ week begun unfinished.
            let here : week_of r.first ≡ week = omega arith in
            start_fits window on form by r.days week (subst (λ v. IsMask on v r.days) here m);
      }

  module _ (r : Permanent B) (week : ℕ) (next both : List Bool) (here : week_of r.last ≡ week)
      (k : IsMask on (week + 1) next)
      (seven : length both ≡ 7) (union : (w : ℕ) → RunsOn both w ↔ (RunsOn r.days w ⊎ RunsOn next w)) where
    -- form 1: the weekdays of the record's mask are those of the next week's
    one_both : MasksAgree One window week r.days next → (w : ℕ) → RunsOn both w → RunsOn r.days w
    one_both agree w has = elim ((union w).0 has) [ inl h ↦ h | inr h ↦ (agree w (RunsOn-below next w k.seven h) tt).1 h ]

    -- form 2: the weekdays of the next week's mask are right in the record's weeks, and those of the record's in the next week
    module _ (g : IsGrown Two window on r) (agree : MasksAgree Two window week r.days next) where
      two_old : (n : ℕ) → week_of r.first ≤ week_of n → week_of n ≤ week_of r.last → IsWithin window n → RunsOn next (weekday_of n) → on n
      two_old n begun unfinished within has =
          let (j, at, day, runs) = k.only (weekday_of n) has in
          let within_j : IsWithin window j = inside j runs in
          let i : ℕ = j - 7 in
          let j_is : i + 7 ≡ j = omega arith in
          let week_i : week_of i ≡ week = omega (arith, week_of-next i, ap week_of j_is) in
          let day_i : weekday_of i ≡ weekday_of n = omega (arith, weekday_of-next i, ap weekday_of j_is) in
          let n_le_i : n ≤ i = day_rises n i (omega arith) (omega arith) in
          let from : window.first ≤ n = within.from in
          let upto : j ≤ window.last = within_j.upto in
          let within_i : IsWithin window i = record { from = omega arith; upto = omega arith } in
          let next_within : IsWithin window (i + 7) = subst (λ v. IsWithin window v) (sym j_is) within_j in
          (g.fits (week_of n) begun unfinished).full n refl within
          ((agree (weekday_of n) (RunsOn-below next (weekday_of n) k.seven has) (i, week_i, day_i, within_i, next_within)).1 has)

      two_next : (n : ℕ) → week_of n ≡ week + 1 → IsWithin window n → RunsOn r.days (weekday_of n) → on n
      two_next n at within has =
          let (j, day, begun, unfinished, runs) = g.used (weekday_of n) has in
          let within_j : IsWithin window j = inside j runs in
          let i : ℕ = n - 7 in
          let n_is : i + 7 ≡ n = omega arith in
          let week_i : week_of i ≡ week = omega (arith, week_of-next i, ap week_of n_is) in
          let day_i : weekday_of i ≡ weekday_of n = omega (arith, weekday_of-next i, ap weekday_of n_is) in
          let j_le_i : j ≤ i = day_rises j i (omega arith) (omega arith) in
          let from : window.first ≤ j = within_j.from in
          let upto : n ≤ window.last = within.upto in
          let within_i : IsWithin window i = record { from = omega arith; upto = omega arith } in
          let next_within : IsWithin window (i + 7) = subst (λ v. IsWithin window v) (sym n_is) within in
          mask_runs on (week + 1) next n k at
          ((agree (weekday_of n) (RunsOn-below r.days (weekday_of n) g.seven has) (i, week_i, day_i, within_i, next_within)).0 has)

    old_fits : (form : Form) (v : ℕ) → IsGrown form window on r → MasksAgree form window week r.days next
        → week_of r.first ≤ v → v ≤ week_of r.last
        → Fits form window on both v
    old_fits Three v g agree begun unfinished = absurd (g.fits v begun unfinished)
    old_fits One v g agree begun unfinished = record {
      seven = seven;
      shows = λ n at runs. (union (weekday_of n)).1 (inl ((g.fits v begun unfinished).shows n at runs));
      only = λ w has. (g.fits v begun unfinished).only w (one_both agree w has);
    }
    old_fits Two v g agree begun unfinished = record {
      shows = λ n at runs. (union (weekday_of n)).1 (inl ((g.fits v begun unfinished).shows n at runs));
      full = λ n at within has. elim ((union (weekday_of n)).0 has) [
        | inl h ↦ (g.fits v begun unfinished).full n at within h
        | inr h ↦ two_old g agree n (omega arith) (omega arith) within h
      ];
    }

    new_fits : (form : Form) → IsGrown form window on r → MasksAgree form window week r.days next → Fits form window on both (week + 1)
    new_fits Three g agree = absurd (g.fits (week_of r.first) (omega arith) g.in_order)
    new_fits One g agree = record {
      seven = seven;
      shows = λ n at runs. (union (weekday_of n)).1 (inr (k.shows n at runs));
      only = λ w has. k.only w ((agree w (RunsOn-below both w seven has) tt).0 (one_both agree w has));
    }
    new_fits Two g agree = record {
      shows = λ n at runs. (union (weekday_of n)).1 (inr (k.shows n at runs));
      full = λ n at within has. elim ((union (weekday_of n)).0 has) [
        | inl h ↦ two_next g agree n at within h
        | inr h ↦ mask_runs on (week + 1) next n k at h
      ];
    }

  -- the record with the next week, which agrees with its last one
  pub grown_more : (form : Form) (r : Permanent B) (week : ℕ) (next both : List Bool) (last : ℕ)
      → week_of r.last ≡ week → IsGrown form window on r
      → IsMask on (week + 1) next → MasksAgree form window week r.days next
      → length both ≡ 7 → ((w : ℕ) → RunsOn both w ↔ (RunsOn r.days w ⊎ RunsOn next w)) → IsLastDay (week + 1) next last
      → IsGrown form window on (record { first = r.first; last = last; days = both; body = r.body })
  grown_more form r week next both last here g k agree seven union l =
      let at_last : week_of last ≡ week + 1 = l.in_week in
      let in_order : week_of r.first ≤ week_of r.last = g.in_order in
      record {
        seven = seven;
        in_order = omega arith;
        first_runs = g.first_runs;
        last_runs = last_runs on (week + 1) next last k l;
        earliest = g.earliest;
        latest = λ n at runs. last_latest on (week + 1) next last n k l (at ∙ at_last) runs;
        used = λ w has. elim ((union w).0 has) [
          | inl h ↦ let (n, day, begun, unfinished, runs) = g.used w h in (n, day, begun, omega arith, runs)
          | inr h ↦ let (n, at, day, runs) = k.only w h in (n, day, omega arith, omega arith, runs)
        ];
        fits = λ v begun unfinished. elim (cases_lt (week_of r.last) v) [
          | inr old ↦ old_fits r week next both here k seven union form v g agree begun old
          | inl new ↦
              let is : week + 1 ≡ v = omega arith in
              subst (λ v. Fits form window on both v) is
              (new_fits r week next both here k seven union form g agree)
        ];
      }
