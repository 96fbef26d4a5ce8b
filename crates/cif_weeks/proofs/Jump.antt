-- Weeks with one mask: a record grows by all of them at once.
use Rattle.cif_weeks.proofs.Names.{Bool, Form, IsGrown, IsMask, IsWithin, List, MasksAgree}
use Rattle.cif_weeks.proofs.Names.{One, Permanent, RunsOn, Three, Two, Window, arith, inl}
use Rattle.cif_weeks.proofs.Names.{refl, subst, suc, sym, week_of, weekday_of, zero, ℕ, ⊎_elim, ◌*◌, ◌+◌, ◌≡◌, ◌≤◌}
use Rattle.cif_weeks.proofs.{Growing.grown_more, Grown.fits_last, Grown.fits_shows}
use Rattle.cif_weeks.proofs.WeekDays.{week_later, week_of-next, weekday_of-next}

module _ {B : Type 0} (window : Window) (on : ℕ → Type 0) (inside : (n : ℕ) → on n → IsWithin window n) where
  module _ (r : Permanent B) (days : List Bool) (m : IsMask on (week_of r.last) days) where
    -- the mask of a record has the weekdays of the mask of its last week, and agrees with that mask
    has_days : (form : Form) → IsGrown form window on r → (w : ℕ) → RunsOn days w → RunsOn r.days w
    has_days form g w has =
        let (n, at, day, runs) = m.only w has in
        subst (λ v. RunsOn r.days v) day
        (fits_shows window on form r.days (week_of r.last) n (fits_last window on inside form r g) at runs)

    days_agree : (form : Form) → IsGrown form window on r → MasksAgree form window (week_of r.last) r.days days
    days_agree Three g w below counts = absurd (fits_last window on inside Three r g)
    days_agree One g w below counts = (
      λ has.
          let (n, at, day, runs) = (fits_last window on inside One r g).only w has in
          subst (λ v. RunsOn days v) day (m.shows n at runs),
      has_days One g w,
    )
    days_agree Two g w below (n, at, day, within, next_within) = (
      λ has. subst (λ v. RunsOn days v) day
          (m.shows n at ((fits_last window on inside Two r g).full n at within (subst (λ v. RunsOn r.days v) (sym day) has))),
      has_days Two g w,
    )

    grown_next : (form : Form) → IsGrown form window on r → IsMask on (week_of r.last + 1) days
        → IsGrown form window on (record { first = r.first; last = r.last + 7; days = r.days; body = r.body })
    grown_next form g next = grown_more window on inside form r (week_of r.last) days r.days (r.last + 7) refl g next
        (days_agree form g) g.seven (λ w. (λ has. inl has, ⊎_elim (λ h. h) (λ h. has_days form g w h)))
        (record {
          in_week = week_of-next r.last;
          runs = subst (λ v. RunsOn days v) (sym (weekday_of-next r.last)) (m.shows r.last refl g.last_runs);
          latest = λ n at has.
              let (i, at_i, day, runs) = m.only (weekday_of n) has in
              let h : i ≤ r.last = g.latest i at_i runs in
              omega arith;
        })

  -- the record with k weeks more, where its last week and these have one mask
  pub grown_jump : (form : Form) (r : Permanent B) (week k : ℕ) (days : List Bool) → week_of r.last ≡ week → IsGrown form window on r
      → ((v : ℕ) → week ≤ v → v ≤ week + k → IsMask on v days)
      → IsGrown form window on (record { first = r.first; last = r.last + 7 * k; days = r.days; body = r.body })
  grown_jump form r week zero days here g masks =
      let same : r.last ≡ r.last + 7 * zero = omega arith in
      subst (λ v. IsGrown form window on (record { first = r.first; last = v; days = r.days; body = r.body })) same g
  grown_jump form r week (suc k) days here g masks =
      let s : Permanent B = record { first = r.first; last = r.last + 7 * k; days = r.days; body = r.body } in
      let h : IsGrown form window on s = grown_jump form r week k days here g (λ v from upto. masks v from (omega arith)) in
      let there : week_of (r.last + 7 * k) ≡ week + k = omega (arith, week_later r.last k) in
      let same : (r.last + 7 * k) + 7 ≡ r.last + 7 * suc k = omega arith in
      subst (λ v. IsGrown form window on (record { first = r.first; last = v; days = r.days; body = r.body })) same
      (grown_next s days (masks (week_of s.last) (omega arith) (omega arith)) form h
      (masks (week_of s.last + 1) (omega arith) (omega arith)))
