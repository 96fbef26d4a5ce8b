-- The span that was found is listed; at the end all have been looked at, or those that are left end no later than one that is too early.
use Rattle.cif_weeks.proofs.Names.{Span, ap, arith, cases_lt, get_or_default, inl, inr, refl, sym, ⊎_elim, ◌-◌, ◌∙◌}
use Rattle.cif_weeks.proofs.body_runs.source_of.Goals as goal

pub returns-then-have_one_body-clause-source : goal.returns-then-have_one_body-clause-source
returns-then-have_one_body-clause-source g c = inl (
  c.index-spans-place.result,
  (c.loop-place.place - 1, omega arith, sym c.index-spans-place.is),
  omega arith,
  refl,
)

pub returns-then-span-week-clause-source : goal.returns-then-span-week-clause-source
returns-then-span-week-clause-source g c = inr (
  refl,
  λ s (k, below, at) near. ⊎_elim
      (λ less.
      let rises = c.requires.order (omega arith) k (c.loop-place.place - 1) s (omega arith) (omega arith) in
      let first = ap (λ (v : Span). v.last_week) at in
      let here = ap (λ (v : Span). v.last_week)
      (c.index-spans-place.is ∙ get_or_default c.args.spans.now (c.loop-place.place - 1) c.index-spans-place.result s (omega arith)) in
      absurd (omega (arith, rises, first, here, near, c.if-span-week.true)))
      (λ later. c.loop-place.invariant.none k s later below at)
      (cases_lt k c.loop-place.place),
)
