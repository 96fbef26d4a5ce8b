-- The state of one date more stands (`states-more`).
use Rattle.cif_calendar.proofs.Names.{IsChosen, Nobody, Stands, arith, get_or, subst, sym, ◌+◌, ◌∙◌}
use Rattle.cif_calendar.proofs.DayStates.{states-more}
use Rattle.cif_calendar.proofs.day_state.add_states.Goals as goal

pub loop-next-preserved : goal.loop-next-preserved
loop-next-preserved g c =
    let xs = c.args.members.now.terms in
    let members = c.args.members.now.positions in
    let day = c.loop-next.day in
    let is = c.loop-next.invariant in
    let state = c.state_by.ensures day (subst
    (λ w. Stands xs members (IsChosen xs members) day (get_or c.args.stretch.now.standings w Nobody))
    (sym (c.from-weekday.ensures ∙ c.weekday.ensures.value)) (c.requires.stretch.1.stands day is.from is.upto)) in
    record {
      from = omega (arith, c.in-Some.ensures);
      upto = omega (arith, c.in-Some.ensures);
      so_far = λ n start. states-more (IsChosen xs members) n day _ _ _ c.in_ok-push.ensures.items (is.so_far n start) state
          c.in-Some.next (sym c.in-Some.ensures.1);
    }

pub returns-in-None : goal.returns-in-None
returns-in-None g c =
    let xs = c.args.members.now.terms in
    let members = c.args.members.now.positions in
    let day = c.loop-next.day in
    let is = c.loop-next.invariant in
    let state = c.state_by.ensures day (subst
    (λ w. Stands xs members (IsChosen xs members) day (get_or c.args.stretch.now.standings w Nobody))
    (sym (c.from-weekday.ensures ∙ c.weekday.ensures.value)) (c.requires.stretch.1.stands day is.from is.upto)) in
    λ n start. states-more (IsChosen xs members) n day _ _ _ c.in_ok-push.ensures.items (is.so_far n start) state
    (c.args.stretch.now.last + 1) (omega (arith, c.in-None.ensures))
