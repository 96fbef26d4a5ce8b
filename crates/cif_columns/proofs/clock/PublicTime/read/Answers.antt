-- What passes the test stands in its columns: by cases of it, blank, or an hour and a minute (`public-stands`).
use Rattle.cif_columns.proofs.{Names.sym, Names.◌∙◌, Times.public-stands}
use Rattle.cif_columns.proofs.clock.PublicTime.read.Goals as goal

pub returns-then-is_public_time-clause-found : goal.returns-then-is_public_time-clause-found
returns-then-is_public_time-clause-found c = public-stands _ c.told-columns (sym c.is_public_time.ensures ∙ c.if-is_public_time.true)
