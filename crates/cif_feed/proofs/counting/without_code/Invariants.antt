-- Of the positions so far those without the code are there.
use Rattle.cif_feed.proofs.{CountedClashes.AreAlso, Names.HasCodeAt, Names.[], Names.published_schedule_terms, Names.take, Names.ℕ}
use Rattle.cif_feed.proofs.counting.without_code.Given as goal

abbrev pub invariant-loop-position : goal.invariant-loop-position
invariant-loop-position l =
    AreAlso (λ (i : ℕ). ¬ HasCodeAt published_schedule_terms l.schedules l.code i) [] (take l.position-index l.members) l.rest.items
