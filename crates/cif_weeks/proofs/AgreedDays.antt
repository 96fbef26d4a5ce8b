-- On which weekdays two weeks have to agree, and weekday by weekday whether they do.
use Rattle.cif_weeks.proofs.Names.{Bool, Counts, Form, List, RunsOn, Two, Window, arith, cases_lt, subst, sym, ℕ, ⊎_elim, ◌*◌, ◌+◌, ◌-◌}
use Rattle.cif_weeks.proofs.Names.{◌<◌, ◌↔◌, ◌≡◌, ◌≤◌}

-- form 2: a weekday counts where its date in the next week, as days from the first Monday, and that a week before lie in the window
pub counts-if : (window : Window) (week next w : ℕ) → w < 7 → week + 1 ≡ next → window.first + 11 ≤ next * 7 + w →
    next * 7 + w ≤ window.last + 4 → Counts Two window week w
counts-if window week next w below is from upto = (
  next * 7 + w - 11,
  omega arith,
  omega arith,
  record { from = omega arith; upto = omega arith },
  record { from = omega arith; upto = omega arith },
)

pub counts-only : (window : Window) (week next w : ℕ) → week + 1 ≡ next → Counts Two window week w →
    (window.first + 11 ≤ next * 7 + w) × (next * 7 + w ≤ window.last + 4)
counts-only window week next w is (n, in_week, day, within, later) = (omega (arith, within.from), omega (arith, later.upto))

-- the masks agree on the weekdays before k
pub record AgreeUpTo (form : Form) (window : Window) (next k : ℕ) (x y : List Bool) : Type 0 where
  pub below : (week w : ℕ) → week + 1 ≡ next → w < k → Counts form window week w → RunsOn x w ↔ RunsOn y w

-- and on k too
pub agree-more : {form : Form} {window : Window} {next k : ℕ} {x y : List Bool} → AgreeUpTo form window next k x y →
    ((week : ℕ) → week + 1 ≡ next → Counts form window week k → RunsOn x k ↔ RunsOn y k) → AgreeUpTo form window next (k + 1) x y
agree-more {form} {window} {k = k} {x} {y} h also = record {
  below = λ week w is less counted. ⊎_elim
      (λ sooner. h.below week w is sooner counted)
      (λ from. let at : k ≡ w = omega arith in subst (λ v. RunsOn x v ↔ RunsOn y v) at
      (also week is (subst (Counts form window week) (sym at) counted)))
      (cases_lt w k);
}
