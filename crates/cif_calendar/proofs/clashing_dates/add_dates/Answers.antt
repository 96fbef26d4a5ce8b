-- One date more is a clash date, or none (`dates-more`); without a dispute no date of the stretch is (`dates-none`).
use Rattle.cif_calendar.proofs.Names.{AreClashDates, IsChosen, Nobody, Stands, arith, get_or, subst, sym, weekday_of, ◌+◌, ◌<◌, ◌∙◌, ◌≡◌}
use Rattle.cif_calendar.proofs.ClashingDates.{dates-more, dates-none, undisputed}
use Rattle.cif_calendar.proofs.clashing_dates.add_dates.Goals as goal

pub loop-next-preserved : goal.loop-next-preserved
loop-next-preserved g c =
    let xs = c.args._members.now.terms in
    let members = c.args._members.now.positions in
    let day = c.loop-next.day in
    let is = c.loop-next.invariant in
    let stands = subst (λ w. Stands xs members (IsChosen xs members) day (get_or c.args.stretch.now.standings w Nobody))
    (sym (c.from.ensures ∙ c.weekday.ensures.value)) (c.requires.stretch.1.stands day is.from is.upto) in
    record {
      from = omega (arith, c.in-Some.ensures);
      upto = omega (arith, c.in-Some.ensures);
      so_far = λ n below start. subst (λ m. AreClashDates (IsChosen xs members) n m c.add_if_disputed.new.days.items)
          (sym c.in-Some.ensures.1)
          (dates-more (IsChosen xs members) n day _ (is.so_far n below start) xs members (let from = is.from in omega arith) _ stands _
          c.in_ok-add_if_disputed.ensures);
    }

pub returns-in-None : goal.returns-in-None
returns-in-None g c =
    let xs = c.args._members.now.terms in
    let members = c.args._members.now.positions in
    let day = c.loop-next.day in
    let is = c.loop-next.invariant in
    let stands = subst (λ w. Stands xs members (IsChosen xs members) day (get_or c.args.stretch.now.standings w Nobody))
    (sym (c.from.ensures ∙ c.weekday.ensures.value)) (c.requires.stretch.1.stands day is.from is.upto) in
    let last : day ≡ c.args.stretch.now.last = omega (arith, c.in-None.ensures, is.upto) in
    λ n below start. subst (λ m. AreClashDates (IsChosen xs members) n (m + 1) c.add_if_disputed.new.days.items) last
    (dates-more (IsChosen xs members) n day _ (is.so_far n below start) xs members (let from = is.from in omega arith) _ stands _
    c.in_ok-add_if_disputed.ensures)

pub returns-then-not-has_dispute : goal.returns-then-not-has_dispute
returns-then-not-has_dispute g c = λ n below start.
    let xs = c.args._members.now.terms in
    let members = c.args._members.now.positions in
    let stretch = c.requires.stretch.1 in
    dates-none (IsChosen xs members) n c.args.first _ start (c.args.stretch.now.last + 1)
    (let order = stretch.in_order in omega arith)
    (λ d from before. undisputed xs members (IsChosen xs members) d (get_or c.args.stretch.now.standings (weekday_of d) Nobody)
    (λ k is. let seven : weekday_of d < 7 = omega arith in
    let yes = c.has_dispute.ensures k (weekday_of d) seven is in
    let no = c.if-not-has_dispute.true in
    cc)
    (stretch.stands d from (omega arith)))
