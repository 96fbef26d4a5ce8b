-- The states of one stretch more stand (`made-next`).
use Rattle.cif_calendar.proofs.{DayStates.made-all, DayStates.made-next, DayStates.stretch-here, LaidPieces.next-day}
use Rattle.cif_calendar.proofs.Names.{drop_all, ◌∙◌}
use Rattle.cif_calendar.proofs.day_state.states_of.Goals as goal

pub add_states-requires : goal.add_states-requires
add_states-requires g c = record {
  stretch = stretch-here _ _ _ _ _ _ c.args.stretches.now _ _ c.loop-stretch-test.true c.stretch-item.is c.loop-stretch.invariant;
}

pub loop-stretch-preserved : goal.loop-stretch-preserved
loop-stretch-preserved g c =
    made-next _ c.args.members.now.terms c.args.members.now.positions _ _ _ c.args.stretches.now _ _
    c.loop-stretch-test.true
    c.stretch-item.is c.loop-stretch.invariant c.unwrap_or-first.result c.add_states.new.states.items
    (λ less. c.unwrap_or-first.ensures ∙ next-day _ _ _ _ c.next_up_to.ensures less)
    (c.in_ok-add_states.ensures c.args.window.now.first)

pub returns : goal.returns
returns g c = made-all _ _ _ _ _ _ _ c.loop-stretch.invariant
    (drop_all c.loop-stretch.stretch-index c.args.stretches.now c.loop-stretch-test.false)
