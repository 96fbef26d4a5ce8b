-- One piece more: up to the earlier end it has what is left of both calendars' pieces (`only-more`).
use Rattle.cif_canon.proofs.Names.{List, Piece, Tiles, arith, map, refl, sooner, subst, sym, ℕ, ◌+◌, ◌≡◌, ◌≤◌}
use Rattle.cif_canon.proofs.DifferentDays.{not-below, piece-bodies, piece-ends}
use Rattle.cif_canon.proofs.{OnlyDays.AreOnlyPieces, OnlyDays.only-more, only_days.only_calendar.Given.Over}
use Rattle.cif_canon.proofs.{only_days.only_calendar.Goals.After-min-last, only_days.only_calendar.Goals.In_ok-push}
use Rattle.cif_canon.proofs.only_days.only_calendar.Goals as goal

pub loop-pieces-init : goal.loop-pieces-init
loop-pieces-init g c = record {
  from = omega (arith, c.window-window.ensures.first);
  upto = omega (arith, c.window-window.ensures.first, c.window-window.ensures.last, c.window-window.result.in_order);
  only = record {
    tiles = subst (λ (ps : List Piece). Tiles ps c.args.one.now.first c.window-window.result.first) (sym c.new-pieces.ensures.items)
        (sym c.window-window.ensures.first);
    only = λ d a b. absurd (omega (arith, a, b, c.window-window.ensures.first));
  };
}

-- both pieces have the first day
far : (g : Over) (c : After-min-last g) → c.loop-pieces.first ≤ c.min-last.result
far g c =
    let soon = sooner c.piece_on-piece.result.now.last c.piece_on-peer.result.now.last c.min-last.result c.min-last.ensures in
    omega (arith, soon.2, c.piece_on-piece.ensures.upto, c.piece_on-peer.ensures.upto)

pub only_winners-winners-requires-clause-left : goal.only_winners-winners-requires-clause-left
only_winners-winners-requires-clause-left g c =
    piece-bodies (map g.E.Entry.terms c.args.entries.now) c.args.one.now c.piece_on-piece.result.now c.piece_on-piece.ensures.tiles
    c.piece_on-piece.ensures.listed c.requires.left c.loop-pieces.first c.min-last.result c.piece_on-piece.ensures.from
    (sooner _ _ _ c.min-last.ensures).0 c.loop-pieces.invariant.from

pub only_winners-winners-requires-clause-right : goal.only_winners-winners-requires-clause-right
only_winners-winners-requires-clause-right g c =
    piece-bodies (map g.E.Entry.terms c.args.others.now) c.args.other.now c.piece_on-peer.result.now c.piece_on-peer.ensures.tiles
    c.piece_on-peer.ensures.listed c.requires.right c.loop-pieces.first c.min-last.result c.piece_on-peer.ensures.from
    (sooner _ _ _ c.min-last.ensures).1 (omega (arith, c.requires.first, c.loop-pieces.invariant.from))

-- one piece more, with what is left of both pieces
more : (g : Over) (c : In_ok-push g) (next : ℕ) → next ≡ c.min-last.result + 1 → c.loop-pieces.first ≤ c.min-last.result →
    AreOnlyPieces (map g.E.Entry.terms c.args.entries.now) c.args.one.now (map g.E.Entry.terms c.args.others.now) c.args.other.now next
    c.push.new.self.items
more g c next is upto =
    let p = c.piece_on-piece in
    let q = c.piece_on-peer in
    let soon = sooner p.result.now.last q.result.now.last c.min-last.result c.min-last.ensures in
    only-more (map g.E.Entry.terms c.args.entries.now) c.args.one.now (map g.E.Entry.terms c.args.others.now) c.args.other.now
    p.result.now q.result.now p.ensures.tiles p.ensures.listed q.ensures.tiles q.ensures.listed c.loop-pieces.pieces.items
    c.push.new.self.items c.loop-pieces.first c.min-last.result next c.only_winners-winners.result upto c.in_ok-push.ensures.items is
    p.ensures.from soon.0 q.ensures.from soon.1 c.only_winners-winners.ensures c.loop-pieces.invariant.only

pub loop-pieces-smaller : goal.loop-pieces-smaller
loop-pieces-smaller g c =
    let after = far g (goal.at.loop-pieces-smaller g c).After-min-last in
    omega (arith, after, c.in-Some.ensures.0, c.in-Some.ensures.1, c.window-window.ensures.last)

pub loop-pieces-preserved : goal.loop-pieces-preserved
loop-pieces-preserved g c =
    let at = goal.at.loop-pieces-preserved g c in
    let after = far g at.After-min-last in
    let next = c.in-Some.ensures.1 in record {
      from = omega (arith, next, after, c.loop-pieces.invariant.from);
      upto = omega (arith, next, c.in-Some.ensures.0, c.window-window.ensures.last);
      only = more g at.In_ok-push c.in-Some.next next after;
    }

pub new-requires : goal.new-requires
new-requires g c =
    let at = goal.at.new-requires g c in
    let ends = not-below _ _ c.in-None.ensures in
    let p = c.piece_on-piece in
    let soon = sooner p.result.now.last c.piece_on-peer.result.now.last c.min-last.result c.min-last.ensures in
    let last = piece-ends (map g.E.Entry.terms c.args.entries.now) c.args.one.now p.result.now p.ensures.tiles p.ensures.listed in
    subst (λ a. Tiles c.push.new.self.items a (c.window-window.result.last + 1)) (sym c.window-window.ensures.first)
    (more g at.In_ok-push (c.window-window.result.last + 1) (omega (arith, ends, last, soon.0, c.window-window.ensures.last))
    (far g at.After-min-last)).tiles

pub returns-in-None : goal.returns-in-None
returns-in-None g c =
    let at = goal.at.returns-in-None g c in
    let ends = not-below _ _ c.in-None.ensures in
    rw c.new.ensures (record {
      first_is = c.window-window.ensures.first;
      last_is = c.window-window.ensures.last;
      sources = λ d from upto. (more g at.In_ok-push (c.min-last.result + 1) refl (far g at.After-min-last)).only d from
          (omega (arith, upto, ends, c.window-window.ensures.last));
    })
