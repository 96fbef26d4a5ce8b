-- No Monday is before the first day (`monday-none`).
use Rattle.cif_views.proofs.WeekLines.{monday-none}
use Rattle.cif_views.proofs.calendar_weeks.monday_columns.Goals as goal

pub returns-in-None : goal.returns-in-None
returns-in-None c = monday-none c.args.week c.requires c.in-None.ensures.none
