-- The first among the calls that are left is the first of all.
use Rattle.cif_views.proofs.Names.{drop, find, ◌≡◌}
use Rattle.cif_views.specs.declared.public_stop.PublicStop.{PublicStop}
use Rattle.cif_views.proofs.boards.first_open.Given as goal

abbrev pub invariant-loop-stop : goal.invariant-loop-stop
invariant-loop-stop l = find (λ (s : PublicStop). s.gets_on) (drop l.stop-index l.stops) ≡ find (λ (s : PublicStop). s.gets_on) l.stops
