-- One weekday more: a span for its winner's body (`taken-more`), or none where it is taken or has no winner (`taken-same`).
use Rattle.cif_weeks.proofs.Names.{AreSpansBefore, None, Piece, Some, arith, length-map, map, refl, same_Some, subst, sym, week_of}
use Rattle.cif_weeks.proofs.Names.{weekday_of, ⊎_elim, ◌+◌, ◌∙◌, ◌≡◌}
use Rattle.cif_weeks.proofs.PieceSpans.{order-later, piece-at, source-below, spans-all, spans-below, spans-known, taken-more, taken-same}
use Rattle.cif_weeks.proofs.calendar_runs.add_piece.Goals as goal
use Rattle.cif_weeks.proofs.calendar_runs.add_piece.Goals.{in-Some+else-not-has, in-Some+then-not-has+in_ok-push, in_default}

pub loop-weekday-init : goal.loop-weekday-init
loop-weekday-init g c =
    let p = c.index-pieces-number.result in
    let (of, at) = piece-at c.args.calendar.now c.pieces.result.now c.args.number p c.pieces.ensures.pieces c.pieces.ensures.tiles
    c.requires.number c.index-pieces-number.is in
    let before = c.requires.spans p at in
    let spans = c.args.spans.now.items in
    record {
      of = of;
      are = spans-known _ _ _ (λ n b known runs. ⊎_elim (λ h. h) (λ h. absurd (c.no_days-taken.ensures.none (weekday_of n) h.2)) known)
          before.are;
      order = order-later (week_of p.first) (week_of p.last) _ (omega arith) (omega (arith, of.in_order)) before.order;
      done = λ w i less. absurd (omega arith);
    }

pub source_of-source-requires : goal.source_of-source-requires
source_of-source-requires g c =
    let long = length-map c.args.entries.now g.E.Entry.terms in
    let l = c.loop-weekday.invariant in
    record {
      position = source-below _ _ c.requires.sources _ l.of _ c.loop-weekday.weekday _ _ long ((c.winner_on.ensures _).0 c.in-Some.is) refl;
      sources = rw c.as_slice.ensures.value (spans-below _ c.args.calendar.now c.requires.sources _ _ long l.are);
      order = λ _. rw c.as_slice.ensures.value l.order.rising;
    }

pub days_of-days-requires : goal.days_of-days-requires
days_of-days-requires g c =
    let long = length-map c.args.entries.now g.E.Entry.terms in
    let below = source-below _ _ c.requires.sources _ c.loop-weekday.invariant.of in
    record {
      source = below _ c.loop-weekday.weekday _ _ long ((c.winner_on.ensures _).0 c.in-Some.is) c.source_of-source.ensures.body;
      winners = λ w i wins. below _ w i _ long wins refl;
    }

pub loop-weekday-preserved : goal.loop-weekday-preserved
loop-weekday-preserved g c =
    let p = c.index-pieces-number.result in
    let l = c.loop-weekday.invariant in
    let xs = map g.E.Entry.terms c.args.entries.now in
    let spans = c.loop-weekday.spans.items in
    let taken = c.loop-weekday.taken in
    let weekday = c.loop-weekday.weekday in
    elim c.match-winner_on.branch [
      | in-Some+then-not-has+in_ok-push w ↦
          let e = w.between.ensures in
          rw (w.spans-is, w.taken-is, w.in_ok-push.ensures.items) (taken-more xs c.args.calendar.now c.requires.sources p l.of spans taken
          w.days_of-days.result w.union-taken.result w.between.result w.in-Some.winner weekday l e.days e.first_week e.last_week
          e.letter (rw e.source w.source_of-source.ensures.body)
          (rw (e.source, ← w.as_slice.ensures.value, ← w.week.ensures) w.source_of-source.ensures.source)
          ((c.winner_on.ensures w.in-Some.winner).0 w.in-Some.is) (rw (← e.source) at w.days_of-days.ensures) w.union-taken.ensures.runs)
      | in-Some+else-not-has w ↦ rw (w.spans-is, w.taken-is) (taken-same xs _ l (λ i wins. w.has.ensures.0 w.if-not-has.false))
      | in_default w ↦ rw (w.spans-is, w.taken-is) (taken-same xs c.args.calendar.now l (λ i wins.
          let none : None ≡ Some i = sym w.in_default.is ∙ (c.winner_on.ensures i).1 wins in absurd (cc)))
    ]

pub returns : goal.returns
returns g c piece at =
    let p = c.index-pieces-number.result in
    let (_, there) = piece-at c.args.calendar.now c.pieces.result.now c.args.number p c.pieces.ensures.pieces c.pieces.ensures.tiles
    c.requires.number c.index-pieces-number.is in
    let l = c.loop-weekday.invariant in
    let spans = c.loop-weekday.spans.items in
    subst (λ (q : Piece). AreSpansBefore (map g.E.Entry.terms c.args.entries.now) c.args.calendar.now (q.last + 1) spans)
    (same_Some p piece (sym there ∙ at)) (record {
      are = spans-all _ _ c.requires.sources p l.of _ c.loop-weekday.taken
          (λ w i below. l.done w i (omega (arith, c.loop-weekday-test.false))) l.are;
      order = order-later (week_of (p.last + 1)) (week_of (p.last + 1)) _ (omega (arith, l.of.in_order)) (omega arith) l.order;
    })
