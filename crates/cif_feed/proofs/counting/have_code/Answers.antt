-- One position more doesn't have it; or none has.
use Rattle.cif_feed.proofs.Names.{HasCodeAt, arith, cases_lt, false≢true, get_or, get_or_default, published_schedule_terms}
use Rattle.cif_feed.proofs.Names.{subst, sym, ℕ, ⊎_elim, ◌<◌, ◌∙◌, ◌≡◌}
use Rattle.cif_feed.proofs.CountedClashes.{code-here}
use Rattle.cif_feed.proofs.counting.have_code.Goals as goal

pub loop-position-preserved : goal.loop-position-preserved
loop-position-preserved c = λ k below.
    let index = c.loop-position.position-index in
    let members = c.args.members.now in
    ⊎_elim
    (λ (early : k < index). c.loop-position.invariant k early)
    (λ late has. let here : k ≡ index = omega arith in
    false≢true (sym c.if-is_of.false ∙ (code-here published_schedule_terms c.args.schedules.now c.args.code (get_or members index 0)
    c.index-schedules-position.result c.is_of.result (c.requires index 0 c.loop-position-test.true) c.index-schedules-position.is
    c.is_of.ensures).1 (subst (λ (j : ℕ). HasCodeAt published_schedule_terms c.args.schedules.now c.args.code (get_or members j 0))
    here has)))
    (cases_lt k index)

pub returns : goal.returns
returns c = λ i member has.
    let (k, below, is) = member in
    absurd (c.loop-position.invariant k (omega (arith, c.loop-position-test.false))
    (subst (λ (j : ℕ). HasCodeAt published_schedule_terms c.args.schedules.now c.args.code j)
    (sym (get_or_default c.args.members.now k 0 i below ∙ is)) has))
