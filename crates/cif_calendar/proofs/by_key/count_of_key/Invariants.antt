-- The positions so far are all of entries with the key.
use Rattle.cif_calendar.proofs.Names.{All, HasKey, keyed, take}
use Rattle.cif_calendar.proofs.by_key.count_of_key.Given as goal

abbrev pub invariant-loop-count : goal.invariant-loop-count
invariant-loop-count g l = All (λ i. HasKey (keyed g.E.Entry.key g.E.Entry.terms l.entries) i l.key) (take l.count l.positions)
