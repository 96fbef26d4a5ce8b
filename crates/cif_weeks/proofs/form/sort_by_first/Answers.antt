-- The keys are the first dates.
use Rattle.cif_weeks.proofs.Names.{IsNonDecreasingBy-from_sort_by_key, Run, rules}
use Rattle.cif_weeks.proofs.form.sort_by_first.Goals as goal

pub returns-clause-order : goal.returns-clause-order
returns-clause-order c = IsNonDecreasingBy-from_sort_by_key (λ (r : Run). r.first) _ c.sort_unstable_by_key.ensures.sorted
    (λ a r q k. search rules)
