use Rattle.cif_columns.proofs.{Flags.runs-without, Names.and_le_l, Names.arith, Names.sym, Names.◌-◌}
use Rattle.cif_columns.proofs.days_run.DaysRun.minus.Goals as goal

pub returns : goal.returns
returns c w = rw (sym c.self.view_is, sym c.other.view_is) (runs-without c.self.inside.bits c.other.inside.bits w c.other.invariant)

pub invariant_of-result : goal.invariant_of-result
invariant_of-result c = omega (arith, c.self.invariant, and_le_l c.self.inside.bits (255 - c.other.inside.bits))
