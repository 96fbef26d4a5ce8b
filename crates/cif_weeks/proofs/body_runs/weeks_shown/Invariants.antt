-- The mask of the days on which one of the spans so far with this source leads, where all that lead agree.
use Rattle.cif_weeks.proofs.Names.{AgreeOn, HaveOneMask, Leads, SomeOf, take, ◌≡◌}
use Rattle.cif_weeks.proofs.body_runs.weeks_shown.Given as goal

abbrev pub invariant-loop-span : goal.invariant-loop-span
invariant-loop-span l = record {
  weeks : HaveOneMask (SomeOf (λ s. s.source ≡ l.source) (λ s n. Leads l.spans n s) (take l.span-index l.spans)) l.week l.until
      (record { days = l.days; last = l.last });
  agreed : AgreeOn l.spans (SomeOf (λ s. s.source ≡ l.source) (λ s n. Leads l.spans n s) (take l.span-index l.spans)) l.week
      (record { days = l.days; last = l.last });
}
