-- A piece has one winner for each weekday: if seven days from the first are alike, so are all that follow (`alike-week`).
use Rattle.cif_canon.proofs.Names.{AreAlikeBy, None, ap, arith, false≢true, get_or, map, refl, subst, sym, ℕ, ◌↔◌, ◌∙◌, ◌≡◌}
use Rattle.cif_calendar.specs.Source.{body_at}
use Rattle.cif_canon.proofs.DifferentDays.{alike-week, day-more, not-below}
use Rattle.cif_canon.proofs.only_days.are_pieces_alike.Goals as goal
use Rattle.cif_canon.proofs.{only_days.are_pieces_alike.Given.Over, only_days.are_pieces_alike.Goals.After-from-weekday}

pub have_same_body-requires-clause-left : goal.have_same_body-requires-clause-left
have_same_body-requires-clause-left g c i is =
    c.requires.left.bodied c.loop.day (omega (arith, c.loop.invariant.day_is)) c.loop.invariant.upto i
    (sym (ap (λ w. get_or c.args.piece.now.winners w None) (c.from-weekday.ensures ∙ c.weekday.ensures.value)) ∙ is)

pub have_same_body-requires-clause-right : goal.have_same_body-requires-clause-right
have_same_body-requires-clause-right g c i is =
    c.requires.right.bodied c.loop.day (omega (arith, c.loop.invariant.day_is)) c.loop.invariant.upto i
    (sym (ap (λ w. get_or c.args.peer.now.winners w None) (c.from-weekday.ensures ∙ c.weekday.ensures.value)) ∙ is)

pub returns : goal.returns
returns g c = (
  λ yes. alike-week (map g.E.Entry.terms c.args.left.now) c.args.piece.now (map g.E.Entry.terms c.args.right.now) c.args.peer.now
      c.args.first c.args.last (λ d a b. c.loop.invariant.alike d a
      (omega (arith, b, c.loop.invariant.day_is, c.loop-test.false, c.loop.auto.counter-end))),
  λ all. refl,
)

-- the bodies are those of the day, by its weekday
alike-here : (g : Over) (c : After-from-weekday g) →
    (body_at (map g.E.Entry.terms c.args.left.now) (get_or c.args.piece.now.winners c.from-weekday.result None)
    ≡ body_at (map g.E.Entry.terms c.args.right.now) (get_or c.args.peer.now.winners c.from-weekday.result None))
    ↔ AreAlikeBy (map g.E.Entry.terms c.args.left.now) c.args.piece.now (map g.E.Entry.terms c.args.right.now) c.args.peer.now c.loop.day
alike-here g c =
    let Alike = λ (w : ℕ). body_at (map g.E.Entry.terms c.args.left.now) (get_or c.args.piece.now.winners w None)
    ≡ body_at (map g.E.Entry.terms c.args.right.now) (get_or c.args.peer.now.winners w None) in
    let place = c.from-weekday.ensures ∙ c.weekday.ensures.value in (λ h. subst Alike place h, λ h. subst Alike (sym place) h)

pub returns-then-not-have_same_body : goal.returns-then-not-have_same_body
returns-then-not-have_same_body g c =
    let here = alike-here g (goal.at.returns-then-not-have_same_body g c).After-from-weekday in (
      λ no. absurd (false≢true no),
      λ all. c.if-not-have_same_body.ensures.1 (here.1 (all c.loop.day (omega (arith, c.loop.invariant.day_is)) c.loop.invariant.upto)),
    )

pub loop-preserved : goal.loop-preserved
loop-preserved g c =
    let here = alike-here g (goal.at.loop-preserved g c).After-from-weekday in
    let next = c.in-Some.ensures.1 in record {
      day_is = omega (arith, next, c.loop.invariant.day_is);
      upto = omega (arith, next, c.in-Some.ensures.0);
      alike = λ d from below. day-more _ c.args.first c.loop.day c.loop.invariant.alike (here.0 (c.if-not-have_same_body.ensures.0 refl)) d
          from (omega (arith, next, below));
    }

pub returns-in-None : goal.returns-in-None
returns-in-None g c = (
  λ yes d from upto.
      let here = alike-here g (goal.at.returns-in-None g c).After-from-weekday in
      let ends = not-below _ _ c.in-None.ensures in
      day-more _ c.args.first c.loop.day c.loop.invariant.alike (here.0 (c.if-not-have_same_body.ensures.0 refl)) d
      from (omega (arith, ends, upto)),
  λ all. refl,
)
