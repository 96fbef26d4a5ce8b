-- Each calendar has pieces of its own: up to the earlier end `alike-by_pieces` tells of both calendars, date by date.
use Rattle.cif_canon.proofs.Names.{HoldsFrom, IsTrue, arith, body_on, cases_lt, false≢true, map, refl, sooner, sym, ⊎_elim, ◌↔◌, ◌∙◌, ◌≡◌}
use Rattle.cif_canon.{proofs.Names.◌≤◌, proofs.only_days.are_alike.Given.Over, proofs.only_days.are_alike.Goals.After-are_pieces_alike}
use Rattle.cif_canon.proofs.DifferentDays.{alike-by_pieces, not-below, piece-bodies, piece-ends}
use Rattle.cif_canon.proofs.only_days.are_alike.Goals as goal

pub loop-window-init : goal.loop-window-init
loop-window-init g c = record {
  from = omega (arith, c.window-window.ensures.first);
  upto = omega (arith, c.window-window.ensures.first, c.window-window.ensures.last, c.window-window.result.in_order);
  alike = λ d a b. absurd (omega (arith, a, b, c.window-window.ensures.first));
}

pub are_pieces_alike-requires-clause-left : goal.are_pieces_alike-requires-clause-left
are_pieces_alike-requires-clause-left g c =
    piece-bodies (map g.E.Entry.terms c.args.left.now) c.args.one.now c.piece_on-piece.result.now c.piece_on-piece.ensures.tiles
    c.piece_on-piece.ensures.listed c.requires.left c.loop-window.first c.min-last.result c.piece_on-piece.ensures.from
    (sooner _ _ _ c.min-last.ensures).0 c.loop-window.invariant.from

pub are_pieces_alike-requires-clause-right : goal.are_pieces_alike-requires-clause-right
are_pieces_alike-requires-clause-right g c =
    piece-bodies (map g.E.Entry.terms c.args.right.now) c.args.other.now c.piece_on-peer.result.now c.piece_on-peer.ensures.tiles
    c.piece_on-peer.ensures.listed c.requires.right c.loop-window.first c.min-last.result c.piece_on-peer.ensures.from
    (sooner _ _ _ c.min-last.ensures).1 (omega (arith, c.requires.first, c.loop-window.invariant.from))

pub are_pieces_alike-requires-clause-in_order : goal.are_pieces_alike-requires-clause-in_order
are_pieces_alike-requires-clause-in_order g c =
    let soon = sooner c.piece_on-piece.result.now.last c.piece_on-peer.result.now.last c.min-last.result c.min-last.ensures in
    omega (arith, soon.2, c.piece_on-piece.ensures.upto, c.piece_on-peer.ensures.upto)

-- what the two pieces say of their days is what the calendars say of them
by_pieces : (g : Over) (c : After-are_pieces_alike g) →
    IsTrue c.are_pieces_alike.result ↔ HoldsFrom (λ d. body_on (map g.E.Entry.terms c.args.left.now) c.args.one.now d
    ≡ body_on (map g.E.Entry.terms c.args.right.now) c.args.other.now d) c.loop-window.first c.min-last.result
by_pieces g c =
    let p = c.piece_on-piece in
    let q = c.piece_on-peer in
    let pieces = alike-by_pieces (map g.E.Entry.terms c.args.left.now) c.args.one.now p.result.now p.ensures.tiles p.ensures.listed
    (map g.E.Entry.terms c.args.right.now) c.args.other.now q.result.now q.ensures.tiles q.ensures.listed c.loop-window.first
    c.min-last.result p.ensures.from (sooner _ _ _ c.min-last.ensures).0 q.ensures.from
    (sooner _ _ _ c.min-last.ensures).1 in (
      λ h. pieces.0 (c.are_pieces_alike.ensures.0 h),
      λ h. c.are_pieces_alike.ensures.1 (pieces.1 h),
    )

pub returns-then-not-are_pieces_alike : goal.returns-then-not-are_pieces_alike
returns-then-not-are_pieces_alike g c =
    let p = c.piece_on-piece in
    let soon = sooner p.result.now.last c.piece_on-peer.result.now.last c.min-last.result c.min-last.ensures in
    let ends = piece-ends (map g.E.Entry.terms c.args.left.now) c.args.one.now p.result.now p.ensures.tiles p.ensures.listed in (
      λ no. absurd (false≢true no),
      λ all. sym c.if-not-are_pieces_alike.true ∙ (by_pieces g (goal.at.returns-then-not-are_pieces_alike g c).After-are_pieces_alike).1
          (λ d a b. all d (omega (arith, a, c.loop-window.invariant.from)) (omega (arith, b, ends, soon.0))),
    )

pub loop-window-smaller : goal.loop-window-smaller
loop-window-smaller g c =
    let soon = sooner c.piece_on-piece.result.now.last c.piece_on-peer.result.now.last c.min-last.result c.min-last.ensures in
    let far : c.loop-window.first ≤ c.min-last.result =
    omega (arith, soon.2, c.piece_on-piece.ensures.upto, c.piece_on-peer.ensures.upto) in
    let below = c.in-Some.ensures.0 in
    let next = c.in-Some.ensures.1 in
    omega (arith, far, below, next, c.window-window.ensures.last)

pub loop-window-preserved : goal.loop-window-preserved
loop-window-preserved g c =
    let soon = sooner c.piece_on-piece.result.now.last c.piece_on-peer.result.now.last c.min-last.result c.min-last.ensures in
    let far : c.loop-window.first ≤ c.min-last.result =
    omega (arith, soon.2, c.piece_on-piece.ensures.upto, c.piece_on-peer.ensures.upto) in
    let below = c.in-Some.ensures.0 in
    let next = c.in-Some.ensures.1 in record {
      from = omega (arith, next, far, c.loop-window.invariant.from);
      upto = omega (arith, next, below, c.window-window.ensures.last);
      alike = λ d a b. ⊎_elim
          (λ early. c.loop-window.invariant.alike d a early)
          (λ late. (by_pieces g (goal.at.loop-window-preserved g c).After-are_pieces_alike).0 c.if-not-are_pieces_alike.false d late
          (omega (arith, b, next)))
          (cases_lt d c.loop-window.first);
    }

pub returns-in-None : goal.returns-in-None
returns-in-None g c = (
  λ yes d a b.
      let ends = not-below _ _ c.in-None.ensures in
      ⊎_elim
      (λ early. c.loop-window.invariant.alike d a early)
      (λ late. (by_pieces g (goal.at.returns-in-None g c).After-are_pieces_alike).0 c.if-not-are_pieces_alike.false d late
      (omega (arith, b, ends, c.window-window.ensures.last)))
      (cases_lt d c.loop-window.first),
  λ all. refl,
)
