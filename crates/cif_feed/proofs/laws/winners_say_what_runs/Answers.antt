-- Of the schedules that apply one decides, and its row is the only one of the day.
use Rattle.cif_feed.proofs.WinnerRows.{one-row, row-says, some-row}
use Rattle.cif_feed.proofs.laws.winners_say_what_runs.Goals as goal

pub returns-clause-some : goal.returns-clause-some
returns-clause-some c = some-row

pub returns-clause-one : goal.returns-clause-one
returns-clause-one c = one-row

pub returns-clause-runs : goal.returns-clause-runs
returns-clause-runs c = row-says
