-- On the weekdays before `weekday` on which the two weeks have to agree their masks do.
use Rattle.cif_weeks.proofs.{AgreedDays.AgreeUpTo, Names.window_days}
use Rattle.cif_weeks.proofs.form.Joining.agree.Given as goal

abbrev pub invariant-loop-weekday : goal.invariant-loop-weekday
invariant-loop-weekday l = AgreeUpTo l.self.form (window_days l.self.window) l.next l.weekday l.before l.days
