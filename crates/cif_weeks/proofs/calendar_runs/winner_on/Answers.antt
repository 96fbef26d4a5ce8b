-- The first date of the weekday comes up to six days after the piece's first.
use Rattle.cif_weeks.proofs.Names.{None, ap, arith, get_or, sym, weekday_of, ℕ, ◌%◌, ◌+◌, ◌-◌, ◌<◌, ◌∙◌, ◌≡◌}
use Rattle.cif_weeks.proofs.calendar_runs.winner_on.Goals as goal

module _ (first w on : ℕ) (is : on ≡ (w + 7 - weekday_of first) % 7) (below : w < 7) where
  its-weekday : weekday_of (first + on) ≡ w
  its-weekday = omega arith

pub returns-then-number-from : goal.returns-then-number-from
returns-then-number-from c i =
    let first = c.args.piece.now.first in
    let is : c.from.result ≡ (c.args.weekday + 7 - weekday_of first) % 7 = omega (arith, c.from.ensures, c.weekday.ensures.value) in
    let at = ap (λ v. get_or c.args.piece.now.winners v None) c.from-then-number-from.ensures in (
      λ same. (
        (
          first + c.from.result,
          omega arith,
          omega (arith, c.if-number-from.true, c.number.ensures.value, c.number-2.ensures.value),
          its-weekday first c.args.weekday c.from.result is c.requires,
        ),
        sym at ∙ same,
      ),
      λ wins. at ∙ wins.1,
    )
