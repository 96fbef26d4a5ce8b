-- Cut by cut (`IsCutUpTo`): one ends a part, and after it another begins, unless the entry ends there.
use Rattle.cif_feed.proofs.Names.{Bool, Contains, IfOk-weaker, IsFromNext, List, None, Some, arith, ended, length, nil_from_length}
use Rattle.cif_feed.proofs.Names.{records_on, rules, subst, sym, ℕ, ◌≡◌, ◌≤◌, ◌⊎◌}
use Rattle.cif_feed.proofs.PartLists.{IsCutUpTo, IsRestOf, cut-end, cut-last, cut-next, cut-nothing, never-stopped, pushed-added}
use Rattle.cif_feed.proofs.PartLists.{pushed-from, rest-first, rest-later, rests-found}
use Rattle.cif_feed.proofs.prepared_record.add_parts.Goals as goal

pub returns-then-is_empty-2 : goal.returns-then-is_empty-2
returns-then-is_empty-2 g c =
    let r = ended c.args.last (g.E.Entry.terms c.args.entry.now) in
    let none : length c.args.holidays.now ≡ 0 = search rules in
    let nor : length c.args.clash_dates.now ≡ 0 = search rules in
    IfOk-weaker _ _ _ (λ done pushed. never-stopped c.args.holidays.now c.args.clash_dates.now (g.E.Entry.key c.args.entry.now) r _ _
    c.requires.in_order (nil_from_length _ none) (nil_from_length _ nor)
    (pushed-from g.E.Entry.key g.E.Entry.terms c.args.entry.now c.first-first.result r.first c.args.last _ _ c.first-first.ensures pushed))
    c.push.ensures

pub loop-cut-init : goal.loop-cut-init
loop-cut-init g c =
    let Stops = λ (d : ℕ). Contains c.args.holidays.now d ⊎ Contains c.args.clash_dates.now d in
    let r = ended c.args.last (g.E.Entry.terms c.args.entry.now) in
    let k = g.E.Entry.key c.args.entry.now in
    let old = records_on g.E.Entry.key g.E.Entry.terms c.args.prepared.now.items in
    let first = c.first-first.result in
    let days = c.days-days.result in
    let last = c.args.last in
    let holidays = c.args.holidays.now in
    let clashes = c.args.clash_dates.now in
    record {
      cut = subst (λ (n : ℕ). IsCutUpTo Stops k r old old n) (sym c.first-first.ensures) (cut-nothing Stops k r old c.requires.in_order);
      holidays = subst (λ (mask : List Bool). IsRestOf holidays mask first last c.from_next-holidays_left.result.now)
          c.days-days.ensures (rest-first holidays days first last c.from_day.result.now c.from_next-holidays_left.result.now
          c.requires.holidays c.from_day.ensures c.from_next-holidays_left.ensures);
      clashes = subst (λ (mask : List Bool). IsRestOf clashes mask first last c.from_next-clashes_left.result.now)
          c.days-days.ensures (rest-first clashes days first last c.from_day-2.result.now c.from_next-clashes_left.result.now
          c.requires.clash_dates c.from_day-2.ensures c.from_next-clashes_left.ensures);
    }

pub returns-in_default : goal.returns-in_default
returns-in_default g c =
    let Stops = λ (d : ℕ). Contains c.args.holidays.now d ⊎ Contains c.args.clash_dates.now d in
    let r = ended c.args.last (g.E.Entry.terms c.args.entry.now) in
    IfOk-weaker _ _ _ (λ done pushed. cut-end Stops (g.E.Entry.key c.args.entry.now) r
    (records_on g.E.Entry.key g.E.Entry.terms c.args.prepared.now.items) _ c.loop-cut.first c.loop-cut.invariant.cut _
    (pushed-added g.E.Entry.key g.E.Entry.terms c.args.entry.now c.loop-cut.first c.args.last _ _ pushed)
    (rests-found c.args.holidays.now c.args.clash_dates.now r.days c.loop-cut.first c.args.last c.loop-cut.holidays_left.now
    c.loop-cut.clashes_left.now c.first_up_to-holiday.result c.first_up_to-clash.result c.sooner.result None
    c.loop-cut.invariant.holidays c.loop-cut.invariant.clashes c.first_up_to-holiday.ensures c.first_up_to-clash.ensures
    c.sooner.ensures c.in_default.is)) c.push-in_default.ensures

pub returns-in-None : goal.returns-in-None
returns-in-None g c =
    let Stops = λ (d : ℕ). Contains c.args.holidays.now d ⊎ Contains c.args.clash_dates.now d in
    let r = ended c.args.last (g.E.Entry.terms c.args.entry.now) in
    cut-last Stops (g.E.Entry.key c.args.entry.now) r
    (records_on g.E.Entry.key g.E.Entry.terms c.args.prepared.now.items) _ c.loop-cut.first c.loop-cut.invariant.cut _ c.in-Some.cut
    c.in_ok-add_before.ensures
    (rests-found c.args.holidays.now c.args.clash_dates.now r.days c.loop-cut.first c.args.last c.loop-cut.holidays_left.now
    c.loop-cut.clashes_left.now c.first_up_to-holiday.result c.first_up_to-clash.result c.sooner.result (Some c.in-Some.cut)
    c.loop-cut.invariant.holidays c.loop-cut.invariant.clashes c.first_up_to-holiday.ensures c.first_up_to-clash.ensures
    c.sooner.ensures c.in-Some.is)
    c.in-None.ensures

pub loop-cut-preserved : goal.loop-cut-preserved
loop-cut-preserved g c =
    let Stops = λ (d : ℕ). Contains c.args.holidays.now d ⊎ Contains c.args.clash_dates.now d in
    let r = ended c.args.last (g.E.Entry.terms c.args.entry.now) in
    let k = g.E.Entry.key c.args.entry.now in
    let old = records_on g.E.Entry.key g.E.Entry.terms c.args.prepared.now.items in
    let new = records_on g.E.Entry.key g.E.Entry.terms c.add_before.new.prepared.items in
    let first = c.loop-cut.first in
    let next = c.in-Some-next_up_to.next in
    let last = c.args.last in
    let holidays = c.args.holidays.now in
    let clashes = c.args.clash_dates.now in
    let found = rests-found holidays clashes r.days first last c.loop-cut.holidays_left.now c.loop-cut.clashes_left.now
    c.first_up_to-holiday.result c.first_up_to-clash.result c.sooner.result (Some c.in-Some.cut) c.loop-cut.invariant.holidays
    c.loop-cut.invariant.clashes c.first_up_to-holiday.ensures c.first_up_to-clash.ensures c.sooner.ensures c.in-Some.is in
    let later : first ≤ next = (let from = found.0 in omega (arith, c.in-Some-next_up_to.ensures.1)) in
    record {
      cut = subst (λ (n : ℕ). IsCutUpTo Stops k r old new n) (sym c.in-Some-next_up_to.ensures.1)
          (cut-next Stops k r old _ first c.loop-cut.invariant.cut new c.in-Some.cut c.in_ok-add_before.ensures found
          c.in-Some-next_up_to.ensures.0);
      holidays = rest-later holidays r.days first next last c.loop-cut.holidays_left.now c.from_next-holidays_left-in-loop-cut.result.now
          c.loop-cut.invariant.holidays later
          (subst (λ (mask : List Bool). IsFromNext mask next last c.loop-cut.holidays_left.now
          c.from_next-holidays_left-in-loop-cut.result.now) c.days-days.ensures c.from_next-holidays_left-in-loop-cut.ensures);
      clashes = rest-later clashes r.days first next last c.loop-cut.clashes_left.now c.from_next-clashes_left-in-loop-cut.result.now
          c.loop-cut.invariant.clashes later
          (subst (λ (mask : List Bool). IsFromNext mask next last c.loop-cut.clashes_left.now
          c.from_next-clashes_left-in-loop-cut.result.now) c.days-days.ensures c.from_next-clashes_left-in-loop-cut.ensures);
    }
