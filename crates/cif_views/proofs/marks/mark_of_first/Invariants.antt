-- The records behind that were looked at have its key, and its body if they have its precedence.
use Rattle.cif_views.proofs.Names.{AllWithin, IsLike, map, placed_at, placed_of, ◌+◌}
use Rattle.cif_views.proofs.marks.mark_of_first.Given as goal

abbrev pub invariant-loop-other : goal.invariant-loop-other
invariant-loop-other g l =
    AllWithin (IsLike (placed_at 0 (g.E.Entry.key l.one) (g.E.Entry.terms l.one)))
    (map (placed_of g.E.Entry.key g.E.Entry.terms) l.applying) (l.i + 1) (l.i + 1 + l.other-index)
