-- The records so far have their marks among all, and what is written is their lines; `mark` is that of the last.
use Rattle.cif_views.proofs.Names.{AreMarkedOn, IsMarkAt, map, placed_of, take, ℕ, ◌+◌, ◌≡◌}
use Rattle.cif_views.proofs.RowNames.{row_text}
use Rattle.cif_views.proofs.explanation.write_explained.Given as goal

abbrev pub invariant-loop-i : goal.invariant-loop-i
invariant-loop-i g l = record {
  written : AreMarkedOn g.W.Write.contents g.W.WriteDevice.write_errors (λ e. row_text g.F.RowFormat.FORMAT (g.E.ExplainedEntry.fields l.day e))
      (map (placed_of g.E.Entry.key g.E.Entry.terms) l.applying)
      (map (placed_of g.E.Entry.key g.E.Entry.terms) (take l.i l.applying)) l.initial.sink l.sink;
  last : (j : ℕ) → l.i ≡ j + 1 → IsMarkAt (map (placed_of g.E.Entry.key g.E.Entry.terms) l.applying) j l.mark;
}
