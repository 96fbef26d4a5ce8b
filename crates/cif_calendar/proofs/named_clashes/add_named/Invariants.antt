-- Behind the known clashes are those of the first that were found.
use Rattle.cif_calendar.proofs.Names.{flat_map, keyed, named, take, ◌++◌, ◌≡◌}
use Rattle.cif_calendar.proofs.named_clashes.add_named.Given as goal

abbrev pub invariant-loop-clash : goal.invariant-loop-clash
invariant-loop-clash g l =
    l.clashes.items ≡ l.initial.clashes.items
    ++ flat_map (named g.E.NamedEntry.clash_of (keyed g.E.Entry.key g.E.Entry.terms l.entries)) (take l.clash-index l.found)
