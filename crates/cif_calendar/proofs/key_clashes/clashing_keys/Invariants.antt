-- What is found stands for the clashes of all keys but the ones with entries at `rest`, and these are greater.
use Rattle.cif_calendar.proofs.Names.{All, KeyClash, keyed, length, ◌<◌}
use Rattle.cif_calendar.proofs.FoundClashes.{AreFound}
use Rattle.cif_calendar.proofs.key_clashes.clashing_keys.Given as goal

abbrev pub invariant-loop-rest : goal.invariant-loop-rest
invariant-loop-rest g l = record {
  within : All (λ i. i < length l.entries) l.rest;
  found_within : All (λ (clash : KeyClash). clash.position < length l.entries) l.found.items;
  found : AreFound g.E.Key.Ord.cmp (keyed g.E.Entry.key g.E.Entry.terms l.entries) l.window.first l.window.last l.found.items l.rest;
}

abbrev pub decreases-loop-rest : goal.decreases-loop-rest
decreases-loop-rest g l = length l.rest
