-- Records that have grown: on which days they apply, that they are aligned, and the change where one ends and another begins.
use Rattle.cif_weeks.proofs.Names.{Bool, Breaks, Change, Fits, Form, IsAligned, IsExact, IsGrown, IsMask, IsWithin, List, One, Permanent}
use Rattle.cif_weeks.proofs.Names.{RunsOn, Three, Two, Window, arith, cases_lt, inl, inr, refl, subst, week_of, weekday_of, ℕ, ◌+◌}
use Rattle.cif_weeks.proofs.Names.{◌<◌, ◌≡◌, ◌≤◌}
use Rattle.cif_weeks.{proofs.Masks.mask_runs, proofs.Separate.change-seven_days, specs.Applies.Applies}
use Rattle.cif_weeks.proofs.WeekDays.{day_rises_week, week_of-next, week_of-rises}

module _ (window : Window) (on : ℕ → Type 0) where
  -- where its mask fits a week, the mask has each weekday on which the body runs there
  pub fits_shows : (form : Form) (days : List Bool) (week n : ℕ) → Fits form window on days week → week_of n ≡ week
      → on n → RunsOn days (weekday_of n)
  fits_shows Three days week n f at runs = absurd f
  fits_shows One days week n f at runs = f.shows n at runs
  fits_shows Two days week n f at runs = f.shows n at runs

  -- and its body runs on each day of the week and the window whose weekday is in the mask
  pub fits_full : (form : Form) (days : List Bool) (week n : ℕ) → Fits form window on days week → week_of n ≡ week
      → IsWithin window n → RunsOn days (weekday_of n) → on n
  fits_full Three days week n f at within has = absurd f
  fits_full One days week n f at within has = mask_runs on week days n f at has
  fits_full Two days week n f at within has = f.full n at within has

module _ {B : Type 0} (window : Window) (on : ℕ → Type 0) (inside : (n : ℕ) → on n → IsWithin window n) where
  module _ (form : Form) (r : Permanent B) (g : IsGrown form window on r) where
    fits_first : Fits form window on r.days (week_of r.first)
    fits_first = g.fits (week_of r.first) (omega arith) g.in_order

    -- its mask fits its last week
    pub fits_last : Fits form window on r.days (week_of r.last)
    fits_last = g.fits (week_of r.last) g.in_order (omega arith)

    -- where a grown record applies, its body runs
    pub grown_runs : (n : ℕ) → Applies r n → on n
    grown_runs n h =
        let a : window.first ≤ r.first = (inside r.first g.first_runs).from in
        let b : r.last ≤ window.last = (inside r.last g.last_runs).upto in
        let c : r.first ≤ n = h.begun in
        let d : n ≤ r.last = h.unfinished in
        fits_full window on form r.days (week_of n) n (g.fits (week_of n) (week_of-rises r.first n c) (week_of-rises n r.last d)) refl
        (record { from = omega arith; upto = omega arith }) h.on_weekday

    -- and where its body runs in its weeks, it applies
    pub grown_applies : (n : ℕ) → week_of r.first ≤ week_of n → week_of n ≤ week_of r.last → on n → Applies r n
    grown_applies n begun unfinished runs = record {
      begun = elim (cases_lt (week_of r.first) (week_of n)) [
        | inl later ↦ let h : r.first < n = day_rises_week r.first n later in omega arith
        | inr same ↦ g.earliest n (omega arith) runs
      ];
      unfinished = elim (cases_lt (week_of n) (week_of r.last)) [
        | inl sooner ↦ let h : n < r.last = day_rises_week n r.last sooner in omega arith
        | inr same ↦ g.latest n (omega arith) runs
      ];
      on_weekday = fits_shows window on form r.days (week_of n) n (g.fits (week_of n) begun unfinished) refl runs;
    }

    -- it applies on its first and its last day
    pub grown_first : Applies r r.first
    grown_first = grown_applies r.first (omega arith) g.in_order g.first_runs

    pub grown_last : Applies r r.last
    grown_last = grown_applies r.last g.in_order (omega arith) g.last_runs

    -- so its dates and its mask are exact
    pub grown_exact : IsExact on r.first r.last r.days
    grown_exact = record {
      seven = g.seven;
      in_order = grown_last.begun;
      first_on = g.first_runs;
      last_on = g.last_runs;
      only = grown_runs;
      all = λ n begun unfinished runs.
          grown_applies n (week_of-rises r.first n begun) (week_of-rises n r.last unfinished) runs;
      used = λ w has.
          let (n, day, begun, unfinished, runs) = g.used w has in
          (n, day, grown_applies n begun unfinished runs);
    }

  -- a grown record is aligned
  pub grown_aligned : (form : Form) (r : Permanent B) → IsGrown form window on r → IsAligned form window r
  grown_aligned Three r g = absurd (fits_first Three r g)
  grown_aligned One r g = record {
    seven = g.seven;
    in_order = (grown_last One r g).begun;
    first_within = inside r.first g.first_runs;
    last_within = inside r.last g.last_runs;
    least = record {
      runs = (grown_first One r g).on_weekday;
      none_before = λ w sooner has.
          let (n, at, day, runs) = (fits_first One r g).only w has in
          let h : r.first ≤ n = g.earliest n at runs in
          omega arith;
    };
    greatest = record {
      runs = (grown_last One r g).on_weekday;
      none_after = λ w later has.
          let (n, at, day, runs) = (fits_last One r g).only w has in
          let h : n ≤ r.last = g.latest n at runs in
          omega arith;
    };
  }
  grown_aligned Two r g = record {
    seven = g.seven;
    first = record { within = inside r.first g.first_runs; in_week = refl; in_mask = (grown_first Two r g).on_weekday };
    earliest = λ n h. g.earliest n h.in_week ((fits_first Two r g).full n h.in_week h.within h.in_mask);
    last = record { within = inside r.last g.last_runs; in_week = refl; in_mask = (grown_last Two r g).on_weekday };
    latest = λ n h. g.latest n h.in_week ((fits_last Two r g).full n h.in_week h.within h.in_mask);
    used = λ w has.
        let (n, day, begun, unfinished, runs) = g.used w has in
        (n, day, grown_applies Two r g n begun unfinished runs);
  }

  -- where a record of the same days begins in the week after one, which doesn't join it, there is a change
  pub grown_change : (form : Form) (r s : Permanent B) → IsGrown form window on r → Breaks form window on r
      → IsGrown form window on s → week_of s.first ≡ week_of r.last + 1 → Change form window on r s
  grown_change Three r s g breaks h next = absurd breaks
  grown_change One r s g breaks h next = breaks s.days (subst (λ v. IsMask on v s.days) next (fits_first One s h))
  grown_change Two r s g (n, t) h next =
      let at : week_of n ≡ week_of r.last = t.in_week in
      let there : week_of (n + 7) ≡ week_of s.first = omega (arith, week_of-next n) in
      let in_order : week_of s.first ≤ week_of s.last = h.in_order in
      let begun : week_of r.first ≤ week_of r.last = g.in_order in
      (change-seven_days window on r s next).1 (
        n,
        at,
        t.within,
        t.next_within,
        elim t.on_one [
          | inl p ↦ inl (grown_applies Two r g n (omega arith) (omega arith) p.0, λ a. p.1 (grown_runs Two s h (n + 7) a))
          | inr p ↦ inr (λ a. p.0 (grown_runs Two r g n a), grown_applies Two s h (n + 7) (omega arith) (omega arith) p.1)
        ],
      )
