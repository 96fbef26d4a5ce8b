-- Whichever key has these positions: it is clear, or its first clash has the first of them (`fault-added`).
use Rattle.cif_calendar.proofs.Names.{Contains-get_or, inl, on_ok_weaker, refl}
use Rattle.cif_calendar.proofs.{FoundClashes.fault-added, FoundClashes.fault-within, Positions.positions-records, Sets.IsClearFrom-same}
use Rattle.cif_calendar.proofs.key_clashes.add_clash_of_key.Goals as goal

pub returns-in-Ok-clause-added : goal.returns-in-Ok-clause-added
returns-in-Ok-clause-added g c k p = inl (
  IsClearFrom-same _ _ (positions-records g.E.Entry.key g.E.Entry.terms c.args.entries.now k c.args.members.now p)
      c.args.window.now.first c.args.window.now.last c.in-Ok.ensures.calendar.clear,
  refl,
)

pub returns-in-Err-clause-added : goal.returns-in-Err-clause-added
returns-in-Err-clause-added g c =
    on_ok_weaker c.add_clash.result
    (λ is k p. fault-added g.E.Entry.key g.E.Entry.terms c.args.entries.now c.args.window.now.first c.args.window.now.last k
    c.args.members.now p _ (Contains-get_or c.args.members.now 0 0 c.requires.some) c.in-Err.fault c.in-Err.ensures.fault
    c.args.found.now.items _ is)
    c.add_clash.ensures

pub returns-in-Err-clause-within : goal.returns-in-Err-clause-within
returns-in-Err-clause-within g c =
    on_ok_weaker c.add_clash.result
    (λ is. fault-within _ _ (c.requires.within 0 0 c.requires.some) c.in-Err.fault c.args.found.now.items _ is)
    c.add_clash.ensures
