-- How far a run can go on into the days after it, weekday by weekday.
use Rattle.cif_weeks.proofs.Names.{GoesOn, IsReach, Run, Stops, arith, cases_lt, subst, weekday_of, ℕ}
use Rattle.cif_weeks.proofs.Names.{⊎_elim, ◌+◌, ◌<◌, ◌≡◌, ◌≤◌}

-- it can't go on after `reach`, and on the weekdays before this one it can go on up to there
pub record IsReachBefore (r s : Run) (weekday reach : ℕ) : Type 0 where
  pub upto : reach ≤ s.last
  pub goes_on : (n : ℕ) → n ≤ reach → weekday_of n < weekday → GoesOn r s n
  pub stops : reach < s.last → Stops r s (reach + 1)

module _ (r s : Run) where
  pub reach-start : IsReachBefore r s 0 s.last
  reach-start = record {
    upto = omega arith;
    goes_on = λ n upto below. absurd (omega arith);
    stops = λ less. absurd (omega arith);
  }

  pub reach-all : (weekday reach : ℕ) → 7 ≤ weekday → IsReachBefore r s weekday reach → IsReach r s reach
  reach-all weekday reach all h = record { upto = h.upto; goes_on = λ n upto. h.goes_on n upto (omega arith); stops = h.stops }

  -- no day before day 1 stops it
  pub stops-later : (n : ℕ) → Stops r s n → 1 ≤ n
  stops-later n h = ⊎_elim
      (λ missing. let after = missing.after in omega arith)
      (λ late. let from = late.late in omega arith)
      h

  module _ (weekday reach : ℕ) (h : IsReachBefore r s weekday reach) where
    -- one weekday more, whose days don't stop it up to there
    pub reach-same : ((n : ℕ) → weekday_of n ≡ weekday → n ≤ reach → GoesOn r s n) → IsReachBefore r s (weekday + 1) reach
    reach-same more = record {
      upto = h.upto;
      goes_on = λ n upto below. ⊎_elim
          (λ sooner. h.goes_on n upto sooner)
          (λ from. more n (omega arith) upto)
          (cases_lt (weekday_of n) weekday);
      stops = h.stops;
    }

    -- or of which one does
    pub reach-less : (stop before : ℕ) → Stops r s stop → ((n : ℕ) → weekday_of n ≡ weekday → n < stop → GoesOn r s n) → stop ≤ reach →
        before + 1 ≡ stop → IsReachBefore r s (weekday + 1) before
    reach-less stop before stops more upto is = record {
      upto = let within = h.upto in omega arith;
      goes_on = λ n up below. ⊎_elim
          (λ sooner. h.goes_on n (omega arith) sooner)
          (λ from. more n (omega arith) (omega arith))
          (cases_lt (weekday_of n) weekday);
      stops = λ less. subst (Stops r s) (let same : stop ≡ before + 1 = omega arith in same) stops;
    }
