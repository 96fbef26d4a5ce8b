-- The entry at the member's position is there.
use Rattle.cif_calendar.proofs.{Names.get_or, Names.get_or_default, Names.slice_get-get_or, Positions.AreLawful-chosen, Winning.terms_at}
use Rattle.cif_calendar.proofs.standing.Members.entry.Goals as goal

pub returns-clause-stands : goal.returns-clause-stands
returns-clause-stands g c =
    let m = c.self.inside in
    let position = get_or m.positions.now c.args.number 0 in
    let number = rw (← c.self.view_is) at c.requires in
    let below = m.within c.args.number 0 number in
    rw (← c.self.view_is) (record {
      position = position;
      member = slice_get-get_or m.positions.now c.args.number 0 number;
      at = terms_at g.E.Entry.terms m.entries.now position _ below (get_or_default _ position _ _ below);
    })

pub returns-clause-lawful : goal.returns-clause-lawful
returns-clause-lawful g c =
    let m = c.self.inside in
    rw (← c.self.view_is) (AreLawful-chosen g.E.Entry.key g.E.Entry.terms g.met.E.Entry.cancelled m.entries.now m.positions.now)
