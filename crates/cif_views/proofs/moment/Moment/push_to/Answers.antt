-- On the first date the hours are those of the time of day (`text-is`).
use Rattle.cif_views.proofs.Names.{List, ap, arith, subst, two_digits, two_digits_or_more, ℕ, ◌*◌, ◌+◌, ◌-◌, ◌/◌, ◌<◌, ◌^◌, ◌∙◌}
use Rattle.cif_views.{proofs.Names.◌≡◌, proofs.Moments.short-hours, proofs.Moments.text-is}
use Rattle.cif_views.proofs.RowNames.{Whole, added-is, field_text, named}
use Rattle.cif_views.proofs.moment.Moment.push_to.Goals as goal

pub returns-then-self-eq-FIRST_DAY : goal.returns-then-self-eq-FIRST_DAY
returns-then-self-eq-FIRST_DAY g c =
    let s = c.self.inside.seconds in
    let within : s < 86400 = c.self.invariant in
    let none_before : s / 3600 ≡ (2 ^ 64 - 2 ^ 64) * 24 + s / 3600 = omega arith in
    added-is _ _ _ _ _ _ _ _
    (ap (λ (l : List ℕ). field_text g.F.RowFormat.FORMAT (named c.args.name.now (Whole, l)))
    (text-is (2 ^ 64) s c.args.self (subst (λ d. d * 86400 + s ≡ c.args.self) c.if-self-eq-FIRST_DAY.true c.self.view_is) within
    c.requires.from (two_digits (s / 3600)) _
    (short-hours (s / 3600) (omega (arith, within)) ∙ ap two_digits_or_more none_before) c.clock_text-text.ensures))
    c.push.ensures
