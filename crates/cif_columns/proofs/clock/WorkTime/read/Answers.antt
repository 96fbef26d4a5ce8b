-- What passes the test stands in its columns: by cases of it, blank, or an hour, a minute and a space or `H` (`work-stands`).
use Rattle.cif_columns.proofs.{Names.sym, Names.◌∙◌, Times.work-stands}
use Rattle.cif_columns.proofs.clock.WorkTime.read.Goals as goal

pub returns-then-is_work_time-clause-found : goal.returns-then-is_work_time-clause-found
returns-then-is_work_time-clause-found c = work-stands _ c.told-columns (sym c.is_work_time.ensures ∙ c.if-is_work_time.true)
