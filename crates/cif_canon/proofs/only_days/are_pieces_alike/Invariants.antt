-- The days before `day` are alike, and `day` is as many days behind the first as the loop went round.
use Rattle.cif_canon.proofs.Names.{AreAlikeBy, map, ℕ, ◌+◌, ◌<◌, ◌≡◌, ◌≤◌}
use Rattle.cif_canon.proofs.only_days.are_pieces_alike.Given as goal

abbrev pub invariant-loop : goal.invariant-loop
invariant-loop g l = record {
  day_is : l.day ≡ l.fn.first + l.counter;
  upto : l.day ≤ l.last;
  alike : (d : ℕ) → l.fn.first ≤ d → d < l.day → AreAlikeBy (map g.E.Entry.terms l.left) l.piece (map g.E.Entry.terms l.right) l.peer d;
}
