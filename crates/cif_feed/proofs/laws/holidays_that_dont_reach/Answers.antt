-- By the dates of a code, which rise.
use Rattle.cif_feed.proofs.UnreachedHolidays.{unreached-found, unreached-only}
use Rattle.cif_feed.proofs.laws.holidays_that_dont_reach.Goals as goal

pub returns-clause-found : goal.returns-clause-found
returns-clause-found c = unreached-found

pub returns-clause-only : goal.returns-clause-only
returns-clause-only c = unreached-only
