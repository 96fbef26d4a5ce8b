-- The records are those at the places so far.
use Rattle.cif_views.proofs.Names.{ArePlacedBelow, keyed, map, placed_of}
use Rattle.cif_views.proofs.marks.records_on.Given as goal

abbrev pub invariant-loop-place : goal.invariant-loop-place
invariant-loop-place g l =
    ArePlacedBelow g.E.ExplainedEntry.is_of (keyed g.E.Entry.key g.E.Entry.terms l.entries) l.uid l.day l.place
    (map (placed_of g.E.Entry.key g.E.Entry.terms) l.applying.items)
