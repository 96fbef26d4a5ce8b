-- Riders may where the answer isn't 1.
use Rattle.cif_views.proofs.Names.{List, and-true, ap, codes, nat_eq, not, pointwise, sym, ℕ, ◌∙◌, ◌≡◌, [], ◌∷◌}
use Rattle.cif_views.specs.Boards.{may}
use Rattle.cif_views.specs.PublicCalls.{pick_up, platform_in, riders_of, set_down, times_of}
use Rattle.cif_views.proofs.public_calls.stop_of.Goals as goal

may-by : (answer : ℕ) (all : List ℕ) → answer ∷ [] ≡ all → not (nat_eq answer 49) ≡ may all
may-by answer all is = ap not (sym (and-true (nat_eq answer 49))) ∙ ap may is

pub returns : goal.returns
returns c =
    let line = c.args.line.now in
    let riders = c.requires.riders in
    let times = c.requires.times in
    let off : not (nat_eq c.answers_of-set_down.result.0 49) ≡ may (set_down (riders_of line) (times_of line)) =
    may-by _ _ (c.answers_of-set_down.ensures.set_down ∙ ap (λ r. set_down r c.args.public.now.times.now) riders ∙ ap (set_down (riders_of line)) times) in
    let on : not (nat_eq c.answers_of-set_down.result.1 49) ≡ may (pick_up (riders_of line) (times_of line)) =
    may-by _ _ (c.answers_of-set_down.ensures.pick_up ∙ ap (λ r. pick_up r c.args.public.now.times.now) riders ∙ ap (pick_up (riders_of line)) times) in
    let platform = c.platform_of.ensures ∙ ap (λ k. (platform_in k line).1) c.kind_of_line.ensures in
    rw (c.columns_at.ensures.value, platform, c.by_the_clock.ensures, c.by_the_clock-2.ensures, off, on)
