-- The TIPLOCs so far, and those of the locations that are left, are all.
use Rattle.cif_views.proofs.Names.{drop, flat_map, ◌++◌, ◌≡◌}
use Rattle.cif_views.specs.Steps.Boards.{locations_of, named_by}
use Rattle.cif_views.proofs.places.Locations.of.Given as goal

abbrev pub invariant-loop-tiploc : goal.invariant-loop-tiploc
invariant-loop-tiploc l =
    l.named.items ++ flat_map (named_by l.place) (drop l.tiploc-index l.tiplocs) ≡ locations_of l.tiplocs l.place
