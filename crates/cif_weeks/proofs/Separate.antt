-- Separate records in order: one ends in a week before that in which the other begins.
use Rattle.cif_weeks.proofs.Names.{AreApart, AreSeparate, Change, ChangeBetween, EitherApplies, ExactlyOne, Form, IsApartFrom, IsByWeeks}
use Rattle.cif_weeks.proofs.Names.{IsWeekOf}
use Rattle.cif_weeks.proofs.Names.{IsWithin, One, Permanent, Three, Two, Window, arith, inl, inr, subst}
use Rattle.cif_weeks.proofs.Names.{sym, week_of, ℕ, ◌+◌, ◌<◌, ◌↔◌, ◌∙◌, ◌≡◌, ◌≢◌, ◌≤◌}
use Rattle.cif_weeks.{proofs.AlignedDays.week_of-applies, proofs.Exact.exact-over, specs.Applies.Applies}
use Rattle.cif_weeks.proofs.WeekDays.{same_day, week_of-next, week_of-rises, weekday_of-next}

-- it doesn't matter which of the two is named first
apart-sym : {B : Type 0} (form : Form) (r s : Permanent B) → AreApart form r s → AreApart form s r
apart-sym One r s h = λ week of_s of_r. h week of_r of_s
apart-sym Two r s h = λ week of_s of_r. h week of_r of_s
apart-sym Three r s h = λ n in_s in_r. h n in_r in_s

pub AreSeparate-sym : {B : Type 0} (form : Form) (window : Window) (on : ℕ → Type 0) (r s : Permanent B) →
    AreSeparate form window on r s → AreSeparate form window on s r
AreSeparate-sym form window on r s h = record { apart = apart-sym form r s h.apart; follows = h.precedes; precedes = h.follows }

-- nor which set of days is meant, where two have the same days
change-over : {B : Type 0} (form : Form) (window : Window) {on other : ℕ → Type 0} (r s : Permanent B) → ((n : ℕ) → on n → other n) →
    ((n : ℕ) → other n → on n) → Change form window on r s → Change form window other r s
change-over One window r s forth back h = h
change-over Two window r s forth back h = h
change-over Three window r s forth back h =
    λ days t. h days (exact-over r.first s.first days t (λ n _ _. back n) (λ n _ _. forth n))

pub separate-over : {B : Type 0} (form : Form) {window : Window} {on other : ℕ → Type 0} {r s : Permanent B} →
    ((n : ℕ) → on n → other n) → ((n : ℕ) → other n → on n) → AreSeparate form window on r s → AreSeparate form window other r s
separate-over form {window = window} {r = r} {s = s} forth back h = record {
  apart = h.apart;
  follows = λ next. change-over form window r s forth back (h.follows next);
  precedes = λ next. change-over form window s r forth back (h.precedes next);
}

-- forms 1 and 2 by weeks
pub record AreWeeksApart {B : Type 0} (form : Form) (window : Window) (on : ℕ → Type 0) (r s : Permanent B) : Type 0 where
  pub apart : (week : ℕ) → IsWeekOf r week → ¬ IsWeekOf s week
  pub follows : week_of s.first ≡ week_of r.last + 1 → Change form window on r s

pub weeks-separate : {B : Type 0} (form : Form) → IsByWeeks form → {window : Window} {on : ℕ → Type 0} {r s : Permanent B} →
    AreSeparate form window on r s → AreWeeksApart form window on r s
weeks-separate One by h = record { apart = h.apart; follows = h.follows }
weeks-separate Two by h = record { apart = h.apart; follows = h.follows }
weeks-separate Three by h = absurd by

-- records that are apart never apply both
pub apart-once : {B : Type 0} (form : Form) (r s : Permanent B) (n : ℕ) → AreApart form r s → Applies r n → ¬ Applies s n
apart-once One r s n h on_r on_s = h (week_of n) (week_of-applies r n on_r) (week_of-applies s n on_s)
apart-once Two r s n h on_r on_s = h (week_of n) (week_of-applies r n on_r) (week_of-applies s n on_s)
apart-once Three r s n h on_r on_s = h n (record { from = on_r.begun; upto = on_r.unfinished })
    (record { from = on_s.begun; upto = on_s.unfinished })

-- records of which one ends in a week before that in which the other begins are in no week both
module _ {B : Type 0} (r s : Permanent B) (ordered_r : r.first ≤ r.last) (ordered_s : s.first ≤ s.last)
    (before : week_of r.last < week_of s.first) where
  weeks-apart : (week : ℕ) → IsWeekOf r week → ¬ IsWeekOf s week
  weeks-apart week of_r of_s =
      let ended : week ≤ week_of r.last = of_r.unfinished in
      let begun : week_of s.first ≤ week = of_s.begun in
      omega arith

  not-before : week_of r.first ≢ week_of s.last + 1
  not-before next =
      let r_weeks : week_of r.first ≤ week_of r.last = week_of-rises r.first r.last ordered_r in
      let s_weeks : week_of s.first ≤ week_of s.last = week_of-rises s.first s.last ordered_s in
      omega arith

module _ {B : Type 0} (window : Window) (on : ℕ → Type 0) (r s : Permanent B) where
  -- records that are apart in their order are separate
  module _ (ordered_r : r.first ≤ r.last) (ordered_s : s.first ≤ s.last) where
    pub separate-from_before : (form : Form) → IsApartFrom form window on r s → AreSeparate form window on r s
    separate-from_before One h = record {
      apart = weeks-apart r s ordered_r ordered_s h.before;
      follows = h.change;
      precedes = λ next. absurd (not-before r s ordered_r ordered_s h.before next);
    }
    separate-from_before Two h = record {
      apart = weeks-apart r s ordered_r ordered_s h.before;
      follows = h.change;
      precedes = λ next. absurd (not-before r s ordered_r ordered_s h.before next);
    }
    separate-from_before Three h = record {
      apart = λ n in_r in_s.
          let before = h.before in
          let ended = in_r.upto in
          let begun = in_s.from in
          omega arith;
      follows = λ after. h.longest;
      precedes = λ before. absurd (let after = h.before in omega arith);
    }

  -- where s's first week directly follows r's last
  module _ (next : week_of s.first ≡ week_of r.last + 1) where
    -- the days of a change are seven days apart
    seven_days : (m n : ℕ) → ChangeBetween window r s m n → n ≡ m + 7
    seven_days m n c =
        let last : week_of m ≡ week_of r.last = c.in_last_week in
        let first : week_of n ≡ week_of s.first = c.in_first_week in
        same_day n (m + 7) (omega (arith, week_of-next m)) (sym c.one_weekday ∙ sym (weekday_of-next m))

    -- in r's last week r alone can apply, and in s's first week s alone
    r_alone : (m : ℕ) → week_of m ≡ week_of r.last → EitherApplies r s m → Applies r m
    r_alone m at (inl h) = h
    r_alone m at (inr h) = let begun : week_of s.first ≤ week_of m = (week_of-applies s m h).begun in absurd (omega arith)

    s_alone : (n : ℕ) → week_of n ≡ week_of s.first → EitherApplies r s n → Applies s n
    s_alone n at (inr h) = h
    s_alone n at (inl h) = let ended : week_of n ≤ week_of r.last = (week_of-applies r n h).unfinished in absurd (omega arith)

    changed : (m n : ℕ) → ChangeBetween window r s m n → ExactlyOne (Applies r m) (Applies s n)
    changed m n c = elim c.on_one [
      | inl p ↦ inl (r_alone m c.in_last_week p.0, λ h. p.1 (inr h))
      | inr p ↦ inr (λ h. p.0 (inl h), s_alone n c.in_first_week p.1)
    ]

    change_after : (n : ℕ) → week_of n ≡ week_of r.last → IsWithin window n → IsWithin window (n + 7)
        → ExactlyOne (Applies r n) (Applies s (n + 7)) → ChangeBetween window r s n (n + 7)
    change_after n at within within_next one =
        let at_first : week_of (n + 7) ≡ week_of s.first = omega (arith, week_of-next n) in
        record {
          one_weekday = sym (weekday_of-next n);
          in_last_week = at;
          in_first_week = at_first;
          within = within;
          next_within = within_next;
          on_one = elim one [
            | inl p ↦ inl (inl p.0, λ h. p.1 (s_alone (n + 7) at_first h))
            | inr p ↦ inr (λ h. p.0 (r_alone n at h), inr p.1)
          ];
        }

    -- so a change is one on a day and on the day seven days later
    pub change-seven_days : Change Two window on r s ↔ ((n : ℕ) × (week_of n ≡ week_of r.last) × IsWithin window n
        × IsWithin window (n + 7) × ExactlyOne (Applies r n) (Applies s (n + 7)))
    change-seven_days = (
      λ c.
          let (m, n, h) = c in
          let later : n ≡ m + 7 = seven_days m n h in (
            m,
            h.in_last_week,
            h.within,
            subst (λ v. IsWithin window v) later h.next_within,
            subst (λ v. ExactlyOne (Applies r m) (Applies s v)) later (changed m n h),
          ),
      λ c. let (n, at, within, within_next, one) = c in (n, n + 7, change_after n at within within_next one),
    )
