-- On which days of its weeks an aligned record applies.
use Rattle.cif_weeks.proofs.Names.{Form, IsAligned, IsAlignedOne, IsAlignedTwo, IsWeekOf, IsWithin, One, Permanent, RunsOn, Three, Two}
use Rattle.cif_weeks.proofs.Names.{Window}
use Rattle.cif_weeks.proofs.Names.{arith, cases_lt, inl, inr, length, subst, sym, week_of, weekday_of, ℕ, ◌*◌, ◌+◌, ◌-◌, ◌<◌, ◌≡◌, ◌≤◌}
use Rattle.cif_weeks.proofs.WeekDays.{RunsOn-below, day_rises, day_rises_week, week_later, week_of-day, week_of-rises, weekday_later}
use Rattle.cif_weeks.{proofs.WeekDays.weekday_of-day, specs.Applies.Applies}

-- a day of a week on which the record applies, on the given weekday
pub record DayOfWeek {B : Type 0} (r : Permanent B) (week weekday : ℕ) : Type 0 where
  pub day : ℕ
  pub in_week : week_of day ≡ week
  pub on_weekday : weekday_of day ≡ weekday
  pub applies : Applies r day

-- what the forms share: the record applies on its first and its last day, which lie in the window, and on a day of
-- each weekday in its mask
pub record IsTight {B : Type 0} (window : Window) (r : Permanent B) : Type 0 where
  pub seven : length r.days ≡ 7
  pub on_first : Applies r r.first
  pub on_last : Applies r r.last
  pub first_within : IsWithin window r.first
  pub last_within : IsWithin window r.last
  pub used : (w : ℕ) → RunsOn r.days w → (n : ℕ) × (weekday_of n ≡ w) × Applies r n

module _ {B : Type 0} (r : Permanent B) where
  -- a record applies in its weeks alone
  pub week_of-applies : (n : ℕ) → Applies r n → IsWeekOf r (week_of n)
  week_of-applies n h = record { begun = week_of-rises r.first n h.begun; unfinished = week_of-rises n r.last h.unfinished }

  module _ (window : Window) where
    -- form 1: in each of its weeks the record applies on each weekday in its mask
    module _ (a : IsAlignedOne window r) where
      least : (w : ℕ) → RunsOn r.days w → weekday_of r.first ≤ w
      least w on = elim (cases_lt w (weekday_of r.first)) [ inl sooner ↦ absurd (a.least.none_before w sooner on) | inr h ↦ h ]

      greatest : (w : ℕ) → RunsOn r.days w → w ≤ weekday_of r.last
      greatest w on = elim (cases_lt (weekday_of r.last) w) [ inl later ↦ absurd (a.greatest.none_after w later on) | inr h ↦ h ]

      full_one : (n : ℕ) → IsWeekOf r (week_of n) → RunsOn r.days (weekday_of n) → Applies r n
      full_one n week on = record {
        begun = day_rises r.first n week.begun (least (weekday_of n) on);
        unfinished = day_rises n r.last week.unfinished (greatest (weekday_of n) on);
        on_weekday = on;
      }

      pub full_week : (week w : ℕ) → IsWeekOf r week → RunsOn r.days w → DayOfWeek r week w
      full_week week w of_r on =
          let below : w < 7 = RunsOn-below r.days w a.seven on in
          let from : weekday_of r.first ≤ w = least w on in
          let begun : week_of r.first ≤ week = of_r.begun in
          let n : ℕ = (r.first + 7 * (week - week_of r.first)) + (w - weekday_of r.first) in
          let in_week : week_of n ≡ week = omega (arith, week_of-day r.first (week - week_of r.first) w from below, begun) in
          let on_weekday : weekday_of n ≡ w = weekday_of-day r.first (week - week_of r.first) w from below in
          record {
            day = n;
            in_week = in_week;
            on_weekday = on_weekday;
            applies = full_one n (subst (λ v. IsWeekOf r v) (sym in_week) of_r) (subst (λ v. RunsOn r.days v) (sym on_weekday) on);
          }

      tight_one : IsTight window r
      tight_one = record {
        seven = a.seven;
        on_first = record { begun = omega arith; unfinished = a.in_order; on_weekday = a.least.runs };
        on_last = record { begun = a.in_order; unfinished = omega arith; on_weekday = a.greatest.runs };
        first_within = a.first_within;
        last_within = a.last_within;
        used = λ w on.
            let ordered : week_of r.first ≤ week_of r.last = week_of-rises r.first r.last a.in_order in
            let d : DayOfWeek r (week_of r.first) w =
            full_week (week_of r.first) w (record { begun = omega arith; unfinished = ordered }) on in
            (d.day, d.on_weekday, d.applies);
      }

    -- form 2: in its weeks the record applies on each day of the window whose weekday is in its mask
    module _ (a : IsAlignedTwo window r) where
      pub full_two : (n : ℕ) → IsWithin window n → IsWeekOf r (week_of n) → RunsOn r.days (weekday_of n) → Applies r n
      full_two n within week on = record {
        begun = elim (cases_lt (week_of r.first) (week_of n)) [
          | inl later ↦ let h : r.first < n = day_rises_week r.first n later in omega arith
          | inr same ↦
              let begun : week_of r.first ≤ week_of n = week.begun in
              a.earliest n (record { within = within; in_week = omega arith; in_mask = on })
        ];
        unfinished = elim (cases_lt (week_of n) (week_of r.last)) [
          | inl sooner ↦ let h : n < r.last = day_rises_week n r.last sooner in omega arith
          | inr same ↦
              let unfinished : week_of n ≤ week_of r.last = week.unfinished in
              a.latest n (record { within = within; in_week = omega arith; in_mask = on })
        ];
        on_weekday = on;
      }

      tight_two : IsTight window r
      tight_two =
          let (n, on_weekday, applies) = a.used (weekday_of r.first) a.first.in_mask in
          let begun : r.first ≤ n = applies.begun in
          let unfinished : n ≤ r.last = applies.unfinished in
          let ordered : r.first ≤ r.last = omega arith in
          record {
            seven = a.seven;
            on_first = record { begun = omega arith; unfinished = ordered; on_weekday = a.first.in_mask };
            on_last = record { begun = ordered; unfinished = omega arith; on_weekday = a.last.in_mask };
            first_within = a.first.within;
            last_within = a.last.within;
            used = a.used;
          }

    pub tight : (form : Form) → IsAligned form window r → IsTight window r
    tight One a = tight_one a
    tight Two a = tight_two a
    tight Three a = record {
      seven = a.seven;
      on_first = a.on_first;
      on_last = a.on_last;
      first_within = a.first_within;
      last_within = a.last_within;
      used = a.used;
    }

    -- an aligned record applies in the window alone
    pub within-tight : IsTight window r → (n : ℕ) → Applies r n → IsWithin window n
    within-tight t n h =
        let a : window.first ≤ r.first = t.first_within.from in
        let b : r.first ≤ n = h.begun in
        let c : n ≤ r.last = h.unfinished in
        let d : r.last ≤ window.last = t.last_within.upto in
        record { from = omega arith; upto = omega arith }

    -- in each of its weeks there is a day on which it applies
    pub day_in_week : IsTight window r → (week : ℕ) → IsWeekOf r week → (n : ℕ) × (week_of n ≡ week) × Applies r n
    day_in_week t week of_r =
        let begun : week_of r.first ≤ week = of_r.begun in
        let unfinished : week ≤ week_of r.last = of_r.unfinished in
        elim (cases_lt week (week_of r.last)) [
          | inr end ↦ (r.last, omega arith, t.on_last)
          | inl sooner ↦
              let n : ℕ = r.first + 7 * (week - week_of r.first) in
              let in_week : week_of n ≡ week = omega (arith, week_later r.first (week - week_of r.first)) in
              let same_day : weekday_of n ≡ weekday_of r.first = weekday_later r.first (week - week_of r.first) in
              let before : n < r.last = day_rises_week n r.last (omega arith) in (
                n,
                in_week,
                record {
                  begun = omega arith;
                  unfinished = omega arith;
                  on_weekday = subst (λ v. RunsOn r.days v) (sym same_day) t.on_first.on_weekday;
                },
              )
        ]
