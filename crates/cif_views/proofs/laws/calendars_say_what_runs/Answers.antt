-- A date is shown in the line of its week, and says what runs (`says-what-runs`).
use Rattle.cif_views.proofs.WeekLines.{says-what-runs}
use Rattle.cif_views.proofs.laws.calendars_say_what_runs.Goals as goal

pub returns : goal.returns
returns c = says-what-runs
