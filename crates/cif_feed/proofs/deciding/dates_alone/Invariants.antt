-- The dates of the parts so far.
use Rattle.cif_feed.proofs.Names.{map, take, ◌≡◌}
use Rattle.cif_feed.specs.Steps.Deciding.{dates_of_part}
use Rattle.cif_feed.proofs.deciding.dates_alone.Given as goal

abbrev pub invariant-loop-part : goal.invariant-loop-part
invariant-loop-part l = l.entries.items ≡ map (dates_of_part l.position l.schedule.days) (take l.part-index l.part-items)
