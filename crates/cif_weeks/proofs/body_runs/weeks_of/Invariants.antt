-- The weeks so far have the days of the spans so far that have this source.
use Rattle.cif_weeks.proofs.Names.{HasDay, SomeOf, take, week_of, ℕ, ◌<◌, ◌≡◌, ◌≤◌}
use Rattle.cif_weeks.proofs.body_runs.weeks_of.Given as goal

abbrev pub invariant-loop-span : goal.invariant-loop-span
invariant-loop-span l = record {
  weeks : (n : ℕ) → SomeOf (λ s. s.source ≡ l.source) HasDay (take l.span-index l.spans) n → (l.first ≤ week_of n) × (week_of n ≤ l.last);
  in_range : l.last < 65535;
}
