-- The text is that of the moment (`text-is`), by its hours.
use Rattle.cif_views.proofs.Names.{List, ap, append_assoc, arith, decimal, sym, two_digits, ℕ, ◌%◌, ◌*◌, ◌++◌, ◌+◌, ◌-◌, ◌/◌, ◌<◌, ◌^◌, ◌∙◌}
use Rattle.cif_views.proofs.{Moments.long-hours, Moments.short-hours, Moments.text-is, Names.◌∷◌, Names.◌≤◌}
use Rattle.cif_views.proofs.RowNames.{Whole, added-is, field_text, named}
use Rattle.cif_views.proofs.moment.Moment.push_later.Goals as goal

pub returns-then-hours-lt100 : goal.returns-then-hours-lt100
returns-then-hours-lt100 g c =
    let d = c.self.inside.day in
    let s = c.self.inside.seconds in
    let hours : ℕ = (d - 2 ^ 64) * 24 + s / 3600 in
    added-is _ _ _ _ _ _ _ _
    (ap (λ (l : List ℕ). field_text g.F.RowFormat.FORMAT (named c.args.name.now (Whole, l)))
    (text-is d s c.args.self c.self.view_is c.self.invariant c.requires.from (two_digits hours) _
    (short-hours hours c.if-hours-lt100.true) c.clock_text-text.ensures))
    c.push.ensures

pub returns : goal.returns
returns g c =
    let d = c.self.inside.day in
    let s = c.self.inside.seconds in
    let hours : ℕ = (d - 2 ^ 64) * 24 + s / 3600 in
    let many : 100 ≤ hours = let not = c.if-hours-lt100.false in omega (arith, not) in
    let view = c.self.view_is in
    let early = c.requires.early in
    let fits : hours < 10 ^ 64 = omega (arith, view, early) in
    added-is _ _ _ _ _ _ _ _
    (ap (λ (l : List ℕ). field_text g.F.RowFormat.FORMAT (named c.args.name.now (Whole, l)))
    (text-is d s c.args.self c.self.view_is c.self.invariant c.requires.from (decimal (hours / 100) ++ two_digits (hours % 100)) _
    (long-hours hours many fits)
    (c.as_bytes.ensures.value
    ∙ c.as_str.ensures.value
    ∙ c.push_str-2.ensures.bytes
    ∙ ap (λ (l : List ℕ). c.push_str.new.self.bytes ++ l) (c.as_text.ensures ∙ c.clock_text.ensures)
    ∙ ap (λ (l : List ℕ). l ++ (two_digits (hours % 100) ++ ((58 ∷ two_digits (s / 60 % 60)) ++ (58 ∷ two_digits (s % 60)))))
    (c.push_str.ensures.bytes ∙ ap (λ (l : List ℕ). l ++ c.format.result.now) c.new-text.ensures ∙ c.format.ensures.text)
    ∙ sym (append_assoc (decimal (hours / 100)) (two_digits (hours % 100)) _))))
    c.push-2.ensures
