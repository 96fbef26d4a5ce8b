-- Dates and masks that are exact for a set of days: parts of them, other sets with the same days, and days near each week.
use Rattle.cif_weeks.proofs.Names.{Bool, IsAmongDates, IsExact, List, None, Option, RunsOn}
use Rattle.cif_weeks.proofs.Names.{Some, [], arith, cases_lt, false, inl, inr, length}
use Rattle.cif_weeks.proofs.Names.{refl, slice_get, subst, suc, sym, true, week_of, weekday_of, zero, ℕ, ⊎_elim, ◌%◌, ◌*◌, ◌+◌, ◌-◌, ◌<◌}
use Rattle.cif_weeks.proofs.Names.{◌↔◌, ◌∙◌, ◌∷◌, ◌≡◌, ◌≤◌, ◌⊎◌}
use Rattle.cif_weeks.proofs.WeekDays.{day_rises_week, masks_equal, week_later, weekday_later}

-- ---- masks of weekdays that are told apart

runs-true : (rest : List Bool) (k : ℕ) (P : ℕ → Type 0) → P 0 → ((w : ℕ) → RunsOn rest w ↔ (P (suc w) × (w < k))) → (w : ℕ) →
    RunsOn (true ∷ rest) w ↔ (P w × (w < suc k))
runs-true rest k P has is zero = (λ on. (has, omega arith), λ h. refl)
runs-true rest k P has is (suc w) = (
  λ on. let h = (is w).0 on in (h.0, omega (arith, h.1)),
  λ h. (is w).1 (h.0, omega (arith, h.1)),
)

runs-false : (rest : List Bool) (k : ℕ) (P : ℕ → Type 0) → ¬ P 0 → ((w : ℕ) → RunsOn rest w ↔ (P (suc w) × (w < k))) → (w : ℕ) →
    RunsOn (false ∷ rest) w ↔ (P w × (w < suc k))
runs-false rest k P not is zero = (λ on. absurd (cc), λ h. absurd (not h.0))
runs-false rest k P not is (suc w) = (
  λ on. let h = (is w).0 on in (h.0, omega (arith, h.1)),
  λ h. (is w).1 (h.0, omega (arith, h.1)),
)

mask-of : (k : ℕ) (P : ℕ → Type 0) → ((w : ℕ) → P w ⊎ ¬ P w) →
    (days : List Bool) × (length days ≡ k) × ((w : ℕ) → RunsOn days w ↔ (P w × (w < k)))
mask-of zero P known = ([], refl, λ w. (λ on. absurd (cc), λ h. absurd (omega (arith, h.1))))
mask-of (suc k) P known =
    let (rest, long, is) = mask-of k (λ w. P (suc w)) (λ w. known (suc w)) in
    ⊎_elim
    (λ has. (true ∷ rest, omega (arith, long), runs-true rest k P has is))
    (λ not. (false ∷ rest, omega (arith, long), runs-false rest k P not is))
    (known 0)

is-true : (o : Option Bool) → (o ≡ Some true) ⊎ ¬ (o ≡ Some true)
is-true None = inr (λ e. absurd (cc))
is-true (Some true) = inl refl
is-true (Some false) = inr (λ e. absurd (cc))

-- a weekday is in a mask, or it isn't
pub runs-cases : (days : List Bool) (w : ℕ) → RunsOn days w ⊎ ¬ RunsOn days w
runs-cases days w = is-true (slice_get days w)

-- ---- the first day of a weekday from a day on

abbrev start : ℕ → ℕ → ℕ
start a w = a + (w + 7 - weekday_of a) % 7

start-weekday : (a w : ℕ) → w < 7 → weekday_of (start a w) ≡ w
start-weekday a w below = omega arith

start-first : (a n : ℕ) → a ≤ n → start a (weekday_of n) ≤ n
start-first a n upto = omega arith

module _ {on : ℕ → Type 0} where
  -- Between two days of the set a mask shows just the days of the set: then the weekdays of those are exact.
  module _ (a b : ℕ) (days : List Bool) (order : a ≤ b) (on_a : on a) (on_b : on b)
      (only : (n : ℕ) → a ≤ n → n ≤ b → RunsOn days (weekday_of n) → on n)
      (all : (n : ℕ) → a ≤ n → n ≤ b → on n → RunsOn days (weekday_of n)) where
    abbrev IsPartDay : ℕ → Type 0
    IsPartDay w = RunsOn days w × (start a w ≤ b)

    known : (w : ℕ) → IsPartDay w ⊎ ¬ IsPartDay w
    known w = ⊎_elim
        (λ runs. ⊎_elim
        (λ late. inr (λ h. absurd (let upto_b = h.1 in omega arith)))
        (λ begun. inl (runs, begun))
        (cases_lt b (start a w)))
        (λ not. inr (λ h. not h.0))
        (runs-cases days w)

    pub exact-within : (part : List Bool) × IsExact on a b part
    exact-within =
        let (part, long, is) = mask-of 7 IsPartDay known in (
          part,
          record {
            seven = long;
            in_order = order;
            first_on = on_a;
            last_on = on_b;
            only = λ n h. only n h.begun h.unfinished ((is (weekday_of n)).0 h.on_weekday).0.0;
            all = λ n begun unfinished runs. record {
              begun = begun;
              unfinished = unfinished;
              on_weekday = (is (weekday_of n)).1
                  ((all n begun unfinished runs, omega (arith, start-first a n begun, unfinished)), omega arith);
            };
            used = λ w has.
                let ((runs, begun), below) = (is w).0 has in
                let day = start-weekday a w below in (
                  start a w,
                  day,
                  record { begun = omega arith; unfinished = begun; on_weekday = subst (RunsOn part) (sym day) has },
                );
          },
        )

  -- from the first day to another day of the set a part is exact
  pub exact-part : (a b c : ℕ) (days : List Bool) → IsExact on a c days → a ≤ b → b ≤ c → on b → (part : List Bool) × IsExact on a b part
  exact-part a b c days e order upto on_b = exact-within a b days order e.first_on on_b
      (λ n begun unfinished has. e.only n (record { begun = begun; unfinished = omega arith; on_weekday = has }))
      (λ n begun unfinished runs. (e.all n begun (omega arith) runs).on_weekday)

  module _ (first last : ℕ) (days : List Bool) (e : IsExact on first last days) where
    -- they show their first and their last day
    pub exact-first : IsAmongDates first last days first
    exact-first = e.all first (omega arith) e.in_order e.first_on

    pub exact-last : IsAmongDates first last days last
    exact-last = e.all last e.in_order (omega arith) e.last_on

    -- of another set with the same days in their range they are exact too
    pub exact-over : {other : ℕ → Type 0} → ((n : ℕ) → first ≤ n → n ≤ last → on n → other n) →
        ((n : ℕ) → first ≤ n → n ≤ last → other n → on n) → IsExact other first last days
    exact-over forth back = record {
      seven = e.seven;
      in_order = e.in_order;
      first_on = forth first (omega arith) e.in_order e.first_on;
      last_on = forth last e.in_order (omega arith) e.last_on;
      only = λ n h. forth n h.begun h.unfinished (e.only n h);
      all = λ n begun unfinished runs. e.all n begun unfinished (back n begun unfinished runs);
      used = e.used;
    }

    -- there is a day of the set in a week near each from that of the first day to the one after that of the last
    pub exact-near : (week : ℕ) → week_of first ≤ week → week ≤ week_of last + 1 →
        (n : ℕ) × (week_of n ≤ week) × (week ≤ week_of n + 1) × on n
    exact-near week from upto = ⊎_elim
        (λ sooner.
        let k = week - week_of first in
        let n = first + 7 * k in
        let at : week_of n ≡ week = omega (arith, week_later first k) in (
          n,
          omega arith,
          omega arith,
          e.only n (record {
            begun = omega arith;
            unfinished = let less : n < last = day_rises_week n last (omega arith) in omega arith;
            on_weekday = subst (RunsOn days) (sym (weekday_later first k)) exact-first.on_weekday;
          }),
        ))
        (λ ended. (last, ended, upto, e.last_on))
        (cases_lt week (week_of last))

  -- from one day to another only one mask is exact
  pub exact-mask : (first last : ℕ) (x y : List Bool) → IsExact on first last x → IsExact on first last y → x ≡ y
  exact-mask first last x y e f =
      let within = λ (v w : List Bool) (g : IsExact on first last v) (h : IsExact on first last w) (day : ℕ) (has : RunsOn v day).
      let (n, is, among) = g.used day has in
      subst (RunsOn w) is (h.all n among.begun among.unfinished (g.only n among)).on_weekday in
      masks_equal x y (e.seven ∙ sym f.seven) (within x y e f) (within y x f e)
