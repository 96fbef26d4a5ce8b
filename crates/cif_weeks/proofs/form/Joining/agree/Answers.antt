-- One weekday more, which doesn't count or on which the masks are alike (`agree-more`).
use Rattle.cif_weeks.proofs.Names.{iff_false, rules, sym, ◌∙◌, ◌≡◌}
use Rattle.cif_weeks.proofs.{AgreedDays.agree-more, form.Joining.agree.Goals.else-has-via-else-has}
use Rattle.cif_weeks.proofs.{form.Joining.agree.Goals.else-has-via-then-has+else-counts}
use Rattle.cif_weeks.proofs.form.Joining.agree.Goals as goal

pub loop-weekday-preserved : goal.loop-weekday-preserved
loop-weekday-preserved c = agree-more c.loop-weekday.invariant (λ week is counted. elim c.else-has.branch [
  | else-has-via-then-has+else-counts w ↦ absurd (iff_false (w.counts.ensures week is) w.if-counts.false counted)
  | else-has-via-else-has w ↦
      let same : c.has.result ≡ c.has-in-loop-weekday.result = search rules in (
        λ on. c.has-in-loop-weekday.ensures.0 (sym same ∙ c.has.ensures.1 on),
        λ on. c.has.ensures.0 (same ∙ c.has-in-loop-weekday.ensures.1 on),
      )
])
