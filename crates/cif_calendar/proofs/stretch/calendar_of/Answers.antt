-- One piece more is laid (`laid-more`), all are the calendar (`laid-all`), and a clash is the window's first (`laid-fault`).
use Rattle.cif_calendar.proofs.Names.{Err, IsAnswer, ap, drop_all, err_from_is_err_and, subst, sym, ◌∙◌}
use Rattle.cif_calendar.proofs.LaidPieces.{laid-all, laid-fault, laid-more, laid-none, laid-tiles, next-day, stretch-laid}
use Rattle.cif_calendar.proofs.stretch.calendar_of.Goals as goal

pub loop-stretch-init : goal.loop-stretch-init
loop-stretch-init g c = rw c.new-pieces.ensures.items (laid-none _ _ _ _ c.args.stretches.now c.requires.stretches)

pub judge-requires : goal.judge-requires
judge-requires g c = record {
  stretch = stretch-laid _ _ _ _ _ _ c.args.stretches.now _ _ c.loop-stretch-test.true c.stretch-item.is c.loop-stretch.invariant;
}

pub returns-in_err-judge : goal.returns-in_err-judge
returns-in_err-judge g c = let p = err_from_is_err_and c.from_residual.result c.from_residual.ensures.1 in
    subst (IsAnswer c.args.members.now.terms c.args.members.now.positions c.args.window.first
    c.args.window.last)
    (sym (p.1 ∙ ap Err p.2)) (laid-fault _ _ _ _ _ _ c.args.stretches.now _ _ c.loop-stretch-test.true c.stretch-item.is
    c.loop-stretch.invariant _ c.in_err-judge.ensures.fault)

pub loop-stretch-preserved : goal.loop-stretch-preserved
loop-stretch-preserved g c =
    laid-more _ _ _ _ _ _ c.args.stretches.now _ _ c.loop-stretch-test.true c.stretch-item.is c.loop-stretch.invariant
    c.unwrap_or-first.result c.push.new.self.items _
    (λ less. c.unwrap_or-first.ensures ∙ next-day _ _ _ _ c.next_up_to.ensures less) c.in-Ok.ensures.items c.in_ok-judge.ensures.piece

pub new-requires : goal.new-requires
new-requires g c = laid-tiles c.args.members.now.terms c.args.members.now.positions _ _ _ _ _
    c.loop-stretch.invariant
    (drop_all c.loop-stretch.stretch-index c.args.stretches.now c.loop-stretch-test.false)

pub returns : goal.returns
returns g c = rw c.new.ensures (laid-all _ _ _ _ _ _ _ c.loop-stretch.invariant
    (drop_all c.loop-stretch.stretch-index c.args.stretches.now c.loop-stretch-test.false))
