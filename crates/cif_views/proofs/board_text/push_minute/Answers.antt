-- The first five bytes of the time are its hour and its minute.
use Rattle.cif_views.proofs.RowNames.{Whole, field-added, named}
use Rattle.cif_views.proofs.Names.{ap, take, ◌∙◌}
use Rattle.cif_views.specs.Boards.{hour_and_minute}
use Rattle.cif_views.proofs.board_text.push_minute.Goals as goal

pub returns : goal.returns
returns g c =
    field-added _ _ g.F.RowFormat.FORMAT (named c.args.name.now (Whole, hour_and_minute c.args.time)) _ _ _ _
    (rw (c.split_at.ensures.front ∙ ap (take 5) c.write-time.ensures) at c.push.ensures)
