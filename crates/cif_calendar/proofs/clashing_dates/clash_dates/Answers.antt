-- At first no bodies are known to be alike, and one member alone has no clash.
use Rattle.cif_calendar.proofs.{Bodies.alike-none, Names.map, Names.rules}
use Rattle.cif_calendar.proofs.clashing_dates.clash_dates.Goals as goal

pub stretches_of-requires-clause-alike : goal.stretches_of-requires-clause-alike
stretches_of-requires-clause-alike g c = rw (
  c.as_mut_slice.ensures.value,
  c.in_ok-alike.ensures.items_if_clones_equal (λ y h. search rules),
)
    (alike-none (map g.E.Entry.terms c.args.entries.now) c.args.members.now)
