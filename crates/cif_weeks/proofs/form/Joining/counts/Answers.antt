-- What is compared are numbers of days from the first Monday (`counts-if`, `counts-only`).
use Rattle.cif_weeks.proofs.Names.{arith, le-leb, leb-true, window_days, ◌*◌, ◌+◌, ◌≡◌, ◌≤◌}
use Rattle.cif_weeks.proofs.AgreedDays.{counts-if, counts-only}
use Rattle.cif_weeks.proofs.form.Joining.counts.Goals as goal

pub returns-then-from-day : goal.returns-then-from-day
returns-then-from-day c week is =
    let w = c.args.self.now.window in
    let window = window_days w in
    let upto : c.from-then-from-day.result ≡ w.last + 4 =
    omega (arith, c.from-then-from-day.ensures, c.days_since_first_monday-last.ensures.value) in
    let known = rw (c.from.ensures, c.from-in-Two.ensures, c.from-in-Two-2.ensures) at c.if-from-day.true in
    let from : w.first + 11 ≤ c.args.next * 7 + c.args.weekday =
    omega (arith, known, c.from-in-Two-3.ensures, c.days_since_first_monday-first.ensures.value) in
    rw (c.in-Two.is, c.from.ensures, c.from-in-Two.ensures, c.from-in-Two-2.ensures, upto) (
      λ on. counts-if window week c.args.next c.args.weekday c.requires is from (leb-true _ _ on),
      λ counted. le-leb _ _ (counts-only window week c.args.next c.args.weekday is counted).1,
    )
