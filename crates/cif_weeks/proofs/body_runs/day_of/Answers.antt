-- A date of the window is a day, so there is one.
use Rattle.cif_weeks.proofs.Names.{arith}
use Rattle.cif_weeks.proofs.body_runs.day_of.Goals as goal

pub unreachable-requires : goal.unreachable-requires
unreachable-requires c = let (n, at, is_day) = c.requires.in_range in c.in-None.ensures.none n (omega arith) (omega arith) is_day
