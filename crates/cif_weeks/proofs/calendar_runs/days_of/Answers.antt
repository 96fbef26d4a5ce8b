-- One weekday more.
use Rattle.cif_weeks.proofs.Names.{Bool, HasBodyOn, List, None, RunsOn, Some, ap, arith, body_at, cases_lt, iff_false, inl, inr, map}
use Rattle.cif_weeks.proofs.Names.{same_Some, subst, sym, ℕ, ⊎_elim, ◌+◌, ◌<◌, ◌↔◌, ◌∙◌, ◌≡◌, ◌⊎◌}
use Rattle.cif_weeks.proofs.calendar_runs.days_of.Goals as goal
use Rattle.cif_weeks.proofs.calendar_runs.days_of.Goals.{in-Some+else-have_one_body, in-Some+then-have_one_body, in_default}

module _ (Has : ℕ → Type 0) (weekday : ℕ) where
  -- the weekday has it
  more : (days only both : List Bool) → ((w : ℕ) → RunsOn days w ↔ ((w < weekday) × Has w)) → ((w : ℕ) → RunsOn only w ↔ (w ≡ weekday)) →
      ((w : ℕ) → RunsOn both w ↔ (RunsOn days w ⊎ RunsOn only w)) → Has weekday → (w : ℕ) → RunsOn both w ↔ ((w < weekday + 1) × Has w)
  more days only both old one union has w = (
    λ on. ⊎_elim
        (λ o. let (less, h) = (old w).0 o in (omega arith, h))
        (λ o. let same = (one w).0 o in (omega (arith, same), subst Has (sym same) has))
        ((union w).0 on),
    λ h. (union w).1 (⊎_elim (λ less. inl ((old w).1 (less, h.1))) (λ from. inr ((one w).1 (omega (arith, h.0)))) (cases_lt w weekday)),
  )

  -- it doesn't
  same : (days : List Bool) → ((w : ℕ) → RunsOn days w ↔ ((w < weekday) × Has w)) → (Has weekday → ⊥) →
      (w : ℕ) → RunsOn days w ↔ ((w < weekday + 1) × Has w)
  same days old without w = (
    λ on. let (less, h) = (old w).0 on in (omega arith, h),
    λ h. ⊎_elim
        (λ less. (old w).1 (less, h.1))
        (λ from. absurd (without (subst Has (let at : w ≡ weekday = omega (arith, h.0) in at) h.1)))
        (cases_lt w weekday),
  )

pub have_one_body-requires-clause-other : goal.have_one_body-requires-clause-other
have_one_body-requires-clause-other g c = c.requires.winners _ _ ((c.winner_on.ensures _).0 c.in-Some.is)

pub loop-weekday-preserved : goal.loop-weekday-preserved
loop-weekday-preserved g c =
    let xs = map g.E.Entry.terms c.args.entries.now in
    let wins = HasBodyOn xs c.args.piece.now c.args.source in
    elim c.match-winner_on.branch [
      | in-Some+then-have_one_body w ↦ rw w.days-is (more wins c.loop-weekday.weekday c.loop-weekday.days w.only.result w.union-days.result
          c.loop-weekday.invariant w.only.ensures.runs w.union-days.ensures.runs (
            w.in-Some.winner,
            (c.winner_on.ensures w.in-Some.winner).0 w.in-Some.is,
            w.have_one_body.ensures.0 w.if-have_one_body.true,
          ))
      | in-Some+else-have_one_body w ↦ rw w.days-is (same wins c.loop-weekday.weekday c.loop-weekday.days c.loop-weekday.invariant
          (λ (i, of, one).
          let it : w.in-Some.winner ≡ i = same_Some _ _ (sym w.in-Some.is ∙ (c.winner_on.ensures i).1 of) in
          iff_false w.have_one_body.ensures w.if-have_one_body.false (one ∙ ap (λ v. body_at xs (Some v)) (sym it))))
      | in_default w ↦ rw w.days-is (same wins c.loop-weekday.weekday c.loop-weekday.days c.loop-weekday.invariant
          (λ (i, of, one). let none : None ≡ Some i = sym w.in_default.is ∙ (c.winner_on.ensures i).1 of in absurd (cc)))
    ]
