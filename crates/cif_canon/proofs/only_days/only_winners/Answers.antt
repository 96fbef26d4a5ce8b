-- One day more sets its weekday's winner (`only-step`); after seven days each weekday was seen (`only-week`).
use Rattle.cif_canon.proofs.Names.{None, ap, arith, get_or, length-set, map, sym, weekday_of, ◌+◌, ◌∙◌, ◌≡◌}
use Rattle.cif_canon.proofs.{DifferentDays.not-below, OnlyDays.only-last, OnlyDays.only-step, OnlyDays.only-week}
use Rattle.cif_canon.proofs.only_days.only_winners.Goals as goal

pub only_source-winner-requires-clause-left : goal.only_source-winner-requires-clause-left
only_source-winner-requires-clause-left g c i is =
    c.requires.left.bodied c.loop.day (omega (arith, c.loop.invariant.day_is)) c.loop.invariant.upto i
    (sym (ap (λ w. get_or c.args.piece.now.winners w None) (c.from-weekday.ensures ∙ c.weekday.ensures.value)) ∙ is)

pub only_source-winner-requires-clause-right : goal.only_source-winner-requires-clause-right
only_source-winner-requires-clause-right g c i is =
    c.requires.right.bodied c.loop.day (omega (arith, c.loop.invariant.day_is)) c.loop.invariant.upto i
    (sym (ap (λ w. get_or c.args.peer.now.winners w None) (c.from-weekday.ensures ∙ c.weekday.ensures.value)) ∙ is)

pub loop-preserved : goal.loop-preserved
loop-preserved g c =
    let place : c.from-weekday.result ≡ weekday_of c.loop.day = c.from-weekday.ensures ∙ c.weekday.ensures.value in record {
      seven = length-set _ _ _ ∙ c.loop.invariant.seven;
      day_is = omega (arith, c.in-Some.ensures);
      upto = omega (arith, c.in-Some.ensures);
      only = only-step (map g.E.Entry.terms c.args.entries.now) (map g.E.Entry.terms c.args.others.now) c.args.piece.now c.args.peer.now
          c.args.first c.loop.day c.from-weekday.result c.in-Some.next c.loop.winners c.only_source-winner.result place
          c.in-Some.ensures.1 c.loop.invariant.seven (omega arith) (omega arith) c.only_source-winner.ensures c.loop.invariant.only;
    }

pub returns-in-None : goal.returns-in-None
returns-in-None g c =
    let place : c.from-weekday.result ≡ weekday_of c.loop.day = c.from-weekday.ensures ∙ c.weekday.ensures.value in
    let ends = not-below _ _ c.in-None.ensures in
    only-last (map g.E.Entry.terms c.args.entries.now) (map g.E.Entry.terms c.args.others.now) c.args.piece.now c.args.peer.now
    c.args.first (c.loop.day + 1) c.args.last _ (omega (arith, ends))
    (only-step (map g.E.Entry.terms c.args.entries.now) (map g.E.Entry.terms c.args.others.now) c.args.piece.now c.args.peer.now
    c.args.first c.loop.day c.from-weekday.result (c.loop.day + 1) c.loop.winners c.only_source-winner.result place
    (omega arith) c.loop.invariant.seven (omega arith) (omega arith) c.only_source-winner.ensures c.loop.invariant.only)

pub returns : goal.returns
returns g c =
    only-week (map g.E.Entry.terms c.args.entries.now) (map g.E.Entry.terms c.args.others.now) c.args.piece.now c.args.peer.now
    c.args.first c.loop.day c.args.last c.loop.winners
    (omega (arith, c.loop.invariant.day_is, c.loop-test.false, c.loop.auto.counter-end)) c.loop.invariant.only
