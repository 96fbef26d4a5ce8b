-- The first of what is left is the next (`rest-found`).
use Rattle.cif_feed.proofs.Names.{IsDateOnDaysRun, IsFirstFrom, Option, subst, sym, ℕ}
use Rattle.cif_feed.proofs.PartLists.{rest-first, rest-found}
use Rattle.cif_feed.proofs.prepared_record.next_on.Goals as goal

pub returns : goal.returns
returns c = subst (λ (o : Option ℕ). IsFirstFrom (IsDateOnDaysRun c.args.dates.now c.args.days) c.args.from c.args.last o)
    (sym c.first_up_to.ensures)
    (rest-found c.args.dates.now c.args.days c.args.from c.args.last c.from_next.result.now
    (rest-first c.args.dates.now c.args.days c.args.from c.args.last c.from_day.result.now c.from_next.result.now c.requires
    c.from_day.ensures c.from_next.ensures))
