-- One position more is there, unless its entry has the code (`also-more`, `also-passed`).
use Rattle.cif_feed.proofs.Names.{All-contains, Contains-get_or, Contains-none, HasCodeAt, List, [], false, false≢true, get_or, true, ◌≡◌}
use Rattle.cif_feed.proofs.Names.{get_or_default, inr, length, published_schedule_terms, rules, subst, sym, take_all, ℕ, ⊎_elim, ◌<◌, ◌∙◌}
use Rattle.cif_feed.proofs.CountedClashes.{AreAlso, also-more, also-passed, code-here}
use Rattle.cif_feed.proofs.counting.without_code.Goals as goal
use Rattle.cif_feed.proofs.counting.without_code.Goals.{After-loop-position, else-not-is_of, then-not-is_of+in_ok-push}

pub loop-position-preserved : goal.loop-position-preserved
loop-position-preserved c =
    let index = c.loop-position.position-index in
    let members = c.args.members.now in
    let position = get_or members index 0 in
    let Q = λ (i : ℕ). ¬ HasCodeAt published_schedule_terms c.args.schedules.now c.args.code i in
    let here = code-here published_schedule_terms c.args.schedules.now c.args.code position c.index-schedules-position.result
    c.is_of.result (c.requires index 0 c.loop-position-test.true) c.index-schedules-position.is c.is_of.ensures in
    let at = get_or_default members index 0 position c.loop-position-test.true in
    elim c.if-not-is_of.branch [
      | then-not-is_of+in_ok-push w ↦ rw (w.rest-is)
          (let off : c.is_of.result ≡ false = search rules in
          also-more Q [] members index position c.loop-position-test.true at c.loop-position.rest.items _ w.in_ok-push.ensures.items
          (λ has. false≢true (sym off ∙ here.1 has)) c.loop-position.invariant)
      | else-not-is_of w ↦ rw (w.rest-is)
          (let on : c.is_of.result ≡ true = search rules in
          also-passed Q [] members index position c.loop-position-test.true at c.loop-position.rest.items
          (λ lacks. lacks (here.0 on)) c.loop-position.invariant)
    ]

-- those that are left
left : (c : After-loop-position) → AreAlso
    (λ (i : ℕ). ¬ HasCodeAt published_schedule_terms c.args.schedules.now c.args.code i) [] c.args.members.now c.loop-position.rest.items
left c = subst (λ (l : List ℕ). AreAlso (λ (i : ℕ). ¬ HasCodeAt published_schedule_terms c.args.schedules.now c.args.code i) [] l
    c.loop-position.rest.items) (take_all c.loop-position.position-index c.args.members.now c.loop-position-test.false)
    c.loop-position.invariant

pub returns-clause-within : goal.returns-clause-within
returns-clause-within c = λ k d below.
    let i = get_or c.loop-position.rest.items k d in
    ⊎_elim
    (λ none. absurd (Contains-none i none))
    (λ is. All-contains (λ (j : ℕ). j < length c.args.schedules.now) c.args.members.now i c.requires is.0)
    ((left c i).0 (Contains-get_or c.loop-position.rest.items k d below))

pub returns-clause-rest : goal.returns-clause-rest
returns-clause-rest c = λ i. (
  λ has. ⊎_elim (λ none. absurd (Contains-none i none)) (λ is. is) ((left c i).0 has),
  λ is. (left c i).1 (inr is),
)
