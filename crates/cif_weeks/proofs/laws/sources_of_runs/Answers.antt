-- A law of all runs: a run begins in the window, where its source is that of the calendar, a winner's (`runs-win`).
use Rattle.cif_weeks.proofs.CalendarSources.{runs-win}
use Rattle.cif_weeks.proofs.laws.sources_of_runs.Goals as goal

pub returns : goal.returns
returns g c form xs members first last calendar runs says are = runs-win xs members first last calendar says form runs are
