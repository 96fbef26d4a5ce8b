-- The last among the calls that are left, or what was found before, is the last of all.
use Rattle.cif_views.proofs.Names.{None, drop, true, ◌≡◌}
use Rattle.cif_views.specs.Boards.{last_location}
use Rattle.cif_views.specs.declared.public_stop.PublicStop.{PublicStop}
use Rattle.cif_views.proofs.boards.destination_of.Given as goal

abbrev pub invariant-loop-stop : goal.invariant-loop-stop
invariant-loop-stop l =
    (last_location (λ (s : PublicStop). s.gets_off) (drop l.stop-index l.stops) l.last_open
    ≡ last_location (λ (s : PublicStop). s.gets_off) l.stops None)
    × (last_location (λ (s : PublicStop). true) (drop l.stop-index l.stops) l.last ≡ last_location (λ (s : PublicStop). true) l.stops None)
