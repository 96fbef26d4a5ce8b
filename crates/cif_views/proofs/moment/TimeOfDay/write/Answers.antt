-- An hour of two digits (`short-hours`).
use Rattle.cif_views.proofs.Names.{List, ap, arith, time_text, two_digits, ℕ, ◌%◌, ◌++◌, ◌/◌, ◌∙◌, ◌∷◌}
use Rattle.cif_views.proofs.Moments.{short-hours}
use Rattle.cif_views.proofs.moment.TimeOfDay.write.Goals as goal

pub returns : goal.returns
returns c =
    let s = c.self.inside.seconds in
    let within = c.self.invariant in
    c.clock_text.ensures
    ∙ ap (λ (l : List ℕ). l ++ ((58 ∷ two_digits (s / 60 % 60)) ++ (58 ∷ two_digits (s % 60)))) (short-hours (s / 3600) (omega (arith, within)))
    ∙ ap time_text c.self.view_is
