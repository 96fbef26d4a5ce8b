-- Forms 1 and 2 join weeks, and form 3 doesn't: what is known of runs and records, form by form.
use Rattle.cif_weeks.proofs.Names.{AreBodyRuns, AreRunsBefore, Change, EndsBefore, EndsWeeksBefore, Form, IsAligned, IsApartFrom, IsByWeeks}
use Rattle.cif_weeks.proofs.Names.{IsExact, IsGrown, IsMade, IsWeeksFrom, IsWithin, List, One}
use Rattle.cif_weeks.proofs.Names.{Permanent, Run, Three, Two, Window, dates_of, inl}
use Rattle.cif_weeks.proofs.Names.{inr, refl, ℕ, ◌<◌, ◌≡◌, ◌⊎◌}
use Rattle.cif_weeks.proofs.{Exact.exact-first, Exact.exact-last, Exact.exact-over, Grown.grown_aligned, Grown.grown_exact}
use Rattle.cif_weeks.proofs.{SameDays.breaks-over, SameDays.grown-over, WeekDays.day_rises_week}

-- a form joins weeks, or it is form 3
pub form-cases : (form : Form) → IsByWeeks form ⊎ (form ≡ Three)
form-cases One = inl tt
form-cases Two = inl tt
form-cases Three = inr refl

-- a change between weeks doesn't depend on the days of the body
pub any-change : {B : Type 0} (form : Form) → IsByWeeks form → (window : Window) (on other : ℕ → Type 0) (r s : Permanent B) →
    Change form window on r s → Change form window other r s
any-change One by window on other r s h = h
any-change Two by window on other r s h = h
any-change Three by window on other r s h = absurd by

module _ (window : Window) (on : ℕ → Type 0) where
  module _ {B : Type 0} (r : Permanent B) where
    pub made-grown : (form : Form) → IsByWeeks form → IsMade form window on r → IsGrown form window on r
    made-grown One by m = m
    made-grown Two by m = m
    made-grown Three by m = absurd by

    pub grown-made : (form : Form) → IsByWeeks form → IsGrown form window on r → IsMade form window on r
    grown-made One by g = g
    grown-made Two by g = g
    grown-made Three by g = absurd by

    -- its body runs on its first day
    pub made-first : (form : Form) → IsMade form window on r → on r.first
    made-first One m = m.first_runs
    made-first Two m = m.first_runs
    made-first Three m = m.first_on

    module _ (inside : (n : ℕ) → on n → IsWithin window n) where
      -- its dates and its mask are exact, and it is aligned
      pub made-exact : (form : Form) → IsMade form window on r → IsExact on r.first r.last r.days
      made-exact One m = grown_exact window on inside One r m
      made-exact Two m = grown_exact window on inside Two r m
      made-exact Three m = m

      pub made-aligned : (form : Form) → IsMade form window on r → IsAligned form window r
      made-aligned One m = grown_aligned window on inside One r m
      made-aligned Two m = grown_aligned window on inside Two r m
      made-aligned Three m = record {
        seven = m.seven;
        on_first = exact-first r.first r.last r.days m;
        on_last = exact-last r.first r.last r.days m;
        first_within = inside r.first m.first_on;
        last_within = inside r.last m.last_on;
        used = m.used;
      }

  -- a run that ends before another ends before it begins
  pub ends-order : (form : Form) (r s : Run) → EndsBefore form window on r s → r.last < s.first
  ends-order One r s h = day_rises_week r.last s.first h.before
  ends-order Two r s h = day_rises_week r.last s.first h.before
  ends-order Three r s h = h.before

  pub ends-weeks : (form : Form) → IsByWeeks form → (r s : Run) → EndsBefore form window on r s → EndsWeeksBefore form window on r s
  ends-weeks One by r s h = h
  ends-weeks Two by r s h = h
  ends-weeks Three by r s h = absurd by

  pub weeks-ends : (form : Form) → IsByWeeks form → (r s : Run) → EndsWeeksBefore form window on r s → EndsBefore form window on r s
  weeks-ends One by r s h = h
  weeks-ends Two by r s h = h
  weeks-ends Three by r s h = absurd by

  pub runs-weeks : (form : Form) → IsByWeeks form → (source limit : ℕ) (made : List Run) →
      AreRunsBefore form window on source limit made → AreBodyRuns form window on source limit made
  runs-weeks One by source limit made h = h
  runs-weeks Two by source limit made h = h
  runs-weeks Three by source limit made h = absurd by

  pub weeks-apart_from : {B : Type 0} (form : Form) → IsByWeeks form → (r s : Permanent B) → IsWeeksFrom form window on r s →
      IsApartFrom form window on r s
  weeks-apart_from One by r s h = h
  weeks-apart_from Two by r s h = h
  weeks-apart_from Three by r s h = absurd by

-- over other days that are the same
module _ (window : Window) {on other : ℕ → Type 0} (forth : (n : ℕ) → on n → other n) (back : (n : ℕ) → other n → on n) where
  pub made-over : {B : Type 0} (form : Form) (r : Permanent B) → IsMade form window on r → IsMade form window other r
  made-over One r m = grown-over window forth back r One m
  made-over Two r m = grown-over window forth back r Two m
  made-over Three r m = exact-over r.first r.last r.days m (λ n _ _. forth n) (λ n _ _. back n)

  weeks-over : (form : Form) (r s : Run) → EndsWeeksBefore form window on r s → EndsWeeksBefore form window other r s
  weeks-over form r s h = record { before = h.before; breaks = λ next. breaks-over window forth back (dates_of r) form (h.breaks next) }

  pub ends-over : (form : Form) (r s : Run) → EndsBefore form window on r s → EndsBefore form window other r s
  ends-over One r s h = weeks-over One r s h
  ends-over Two r s h = weeks-over Two r s h
  ends-over Three r s h = record {
    before = h.before;
    longest = λ days t. h.longest days (exact-over r.first s.first days t (λ n _ _. back n) (λ n _ _. forth n));
  }
