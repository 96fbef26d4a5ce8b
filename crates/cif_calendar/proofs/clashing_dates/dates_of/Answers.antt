-- The clash dates of one stretch more are found (`made-next`).
use Rattle.cif_calendar.proofs.{DayStates.made-all, DayStates.made-next, DayStates.stretch-here, LaidPieces.next-day, Names.arith}
use Rattle.cif_calendar.proofs.Names.{drop_all, ◌∙◌}
use Rattle.cif_calendar.proofs.clashing_dates.dates_of.Goals as goal

pub add_dates-requires : goal.add_dates-requires
add_dates-requires g c = record {
  stretch = stretch-here _ _ _ _ _ _ c.args.stretches.now _ _ c.loop-stretch-test.true c.stretch-item.is c.loop-stretch.invariant;
}

pub loop-stretch-preserved : goal.loop-stretch-preserved
loop-stretch-preserved g c =
    let stretch = stretch-here _ _ _ _ _ _ c.args.stretches.now _ _ c.loop-stretch-test.true c.stretch-item.is c.loop-stretch.invariant in
    made-next _ c.args.members.now.terms c.args.members.now.positions _ _ _ c.args.stretches.now _ _
    c.loop-stretch-test.true
    c.stretch-item.is c.loop-stretch.invariant c.unwrap_or-first.result c.add_dates.new.days.items
    (λ less. c.unwrap_or-first.ensures ∙ next-day _ _ _ _ c.next_up_to.ensures less)
    (λ so_far. (
      (let order = stretch.1.in_order in let from = so_far.0 in omega arith),
      c.in_ok-add_dates.ensures c.args.window.now.first so_far.0 so_far.1,
    ))

pub returns : goal.returns
returns g c = (made-all _ _ _ _ _ _ _ c.loop-stretch.invariant
    (drop_all c.loop-stretch.stretch-index c.args.stretches.now c.loop-stretch-test.false)).1
