-- The date, or nothing after the year 9999.
use Rattle.cif_views.proofs.Names.{codes}
use Rattle.cif_views.proofs.RowNames.{field-added, named}
use Rattle.cif_views.specs.Boards.{date_value}
use Rattle.cif_views.proofs.board_text.push_date.Goals as goal

pub returns-in-Some : goal.returns-in-Some
returns-in-Some g c =
    field-added _ _ g.F.RowFormat.FORMAT (named (codes "calling_at_date") (date_value c.args.date)) _ _ _ _ (rw c.in-Some.is c.push.ensures)

pub returns-in-None : goal.returns-in-None
returns-in-None g c =
    field-added _ _ g.F.RowFormat.FORMAT (named (codes "calling_at_date") (date_value c.args.date)) _ _ _ _
    (rw c.in-None.is c.push-in-None.ensures)
