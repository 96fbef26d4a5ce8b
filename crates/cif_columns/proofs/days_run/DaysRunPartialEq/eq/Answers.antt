use Rattle.cif_columns.proofs.Names.{bits_of-flags, rules}
use Rattle.cif_columns.proofs.days_run.DaysRunPartialEq.eq.Goals as goal

pub returns : goal.returns
returns c = search (rules, bits_of-flags)
