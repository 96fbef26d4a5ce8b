-- The last of the records and of the marks go to the front of what is made.
use Rattle.cif_feed.proofs.Names.{ArePairs, [], ap, append-nil, append_assoc, reverse-append, subst, sym, ◌++◌, ◌∙◌, ◌∷◌}
use Rattle.cif_feed.proofs.ListSteps.{pairs_last, pairs_some}
use Rattle.cif_feed.proofs.published_extract.from_lines.Goals as goal

pub loop-entry-init : goal.loop-entry-init
loop-entry-init g c = (
  c.requires,
  [],
  [],
  sym (append-nil c.args.entries.items),
  sym (append-nil c.args.marks.items),
  rw c.in_ok-made.ensures.items tt,
)

pub last_of-requires : goal.last_of-requires
last_of-requires g c =
    pairs_some g.T.FromLine.may c.pop.new.self.items c.in-Some.entry c.loop-entry.marks.items
    (subst (λ l. ArePairs g.T.FromLine.may l c.loop-entry.marks.items) c.in-Some.ensures.items c.loop-entry.invariant.0)

pub from_line-requires : goal.from_line-requires
from_line-requires g c =
    (pairs_last g.T.FromLine.may c.pop.new.self.items c.last_of.new.marks.items c.in-Some.entry c.last_of.result
    (subst (λ l. ArePairs g.T.FromLine.may l (c.last_of.new.marks.items ++ c.last_of.result ∷ [])) c.in-Some.ensures.items
    (subst (λ l. ArePairs g.T.FromLine.may c.loop-entry.entries.items l) c.last_of.ensures c.loop-entry.invariant.0))).1

pub loop-entry-preserved : goal.loop-entry-preserved
loop-entry-preserved g c =
    let (pairs, entries, marks, entries_are, marks_are, made) = c.loop-entry.invariant in (
      (pairs_last g.T.FromLine.may c.pop.new.self.items c.last_of.new.marks.items c.in-Some.entry c.last_of.result
          (subst (λ l. ArePairs g.T.FromLine.may l (c.last_of.new.marks.items ++ c.last_of.result ∷ [])) c.in-Some.ensures.items
          (subst (λ l. ArePairs g.T.FromLine.may c.loop-entry.entries.items l) c.last_of.ensures pairs))).0,
      c.in-Some.entry ∷ entries,
      c.last_of.result ∷ marks,
      entries_are ∙ ap (λ l. l ++ entries) c.in-Some.ensures.items ∙ append_assoc c.pop.new.self.items (c.in-Some.entry ∷ []) entries,
      marks_are ∙ ap (λ l. l ++ marks) c.last_of.ensures ∙ append_assoc c.last_of.new.marks.items (c.last_of.result ∷ []) marks,
      rw (c.in_ok-push.ensures.items, reverse-append c.loop-entry.made.items (c.from_line.result ∷ [])) (c.from_line.ensures, made),
    )
