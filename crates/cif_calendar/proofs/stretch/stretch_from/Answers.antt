-- One member more begins later, has ended (`stretch-begins`, `stretch-ended`), or lies over the first day (`stretch-looked`).
use Rattle.cif_calendar.proofs.Names.{Leader, Some, [], arith, length, refl, same_Some, slice_get, subst, sym, take, take_all}
use Rattle.cif_calendar.proofs.Names.{take_more, ◌+◌, ◌∙◌, ◌≡◌}
use Rattle.cif_calendar.proofs.Standings.{below-same}
use Rattle.cif_calendar.proofs.Stretches.{day_upto, part-at, some-before, stretch-begins, stretch-ended, stretch-looked}
use Rattle.cif_calendar.proofs.Stretches.{stretch-none}
use Rattle.cif_calendar.proofs.stretch.stretch_from.Goals as goal
use Rattle.cif_calendar.proofs.stretch.stretch_from.Goals.{else-le+in-Some, else-le+in_default, then-le+else-le-2, then-le+then-le-2}

pub loop-index-init : goal.loop-index-init
loop-index-init g c = record {
  alike = c.requires.alike;
  stretch = stretch-none c.args.members.now.terms c.args.members.now.positions [] (c.args.last + 1)
      c.args.first c.args.last
      c.requires.in_order refl;
}

pub entry-requires : goal.entry-requires
entry-requires g c = omega (arith, c.loop-index-test.true, c.requires.part.within)

pub loop-index-preserved : goal.loop-index-preserved
loop-index-preserved g c =
    let xs = c.args.members.now.terms in
    let part = c.args.part.now in
    let k = c.loop-index.index in
    let here = c.loop-index-test.true in
    let one = c.entry.result.now in
    let stands = c.entry.ensures.stands in
    let member = part-at c.args.members.now.positions c.args.number part c.requires.part k 0 here in
    let at = subst (λ p. slice_get xs p ≡ Some (g.E.Entry.terms one)) (same_Some _ _ (sym stands.member ∙ member)) stands.at in
    let old = c.loop-index.invariant in
    let first = c.of-dates.ensures.first in
    let begun = day_upto c.of-dates.result.first c.args.first c.le.result c.le.ensures in
    elim c.if-le.branch [
      | then-le+then-le-2 w ↦ record {
        alike = rw w.alike-is w.look_at.ensures.alike;
        stretch = rw (w.standings-is, w.end-is, take_more part k 0 here) (stretch-looked xs _ (take k part) _ _ _ _ _ member at _
            old.stretch w.min-end.result w.look_at.new.standings w.look_at.ensures.below (rw c.of-dates.ensures.last at w.min-end.ensures)
            (rw first at (begun.0 w.if-le.true))
            (rw c.of-dates.ensures.last at
            ((day_upto c.args.first c.of-dates.result.last w.le-then-le.result w.le-then-le.ensures).0 w.if-le-2.true))
            (rw c.of-dates.ensures.days at w.look_at.ensures.each));
      }
      | then-le+else-le-2 w ↦ record {
        alike = rw w.alike-is old.alike;
        stretch = rw (w.standings-is, w.end-is, take_more part k 0 here) (stretch-ended xs _ (take k part) _ _ _ _ _ member at _ old.stretch
            _ refl (rw first at (begun.0 w.if-le.true))
            (rw c.of-dates.ensures.last at
            ((day_upto c.args.first c.of-dates.result.last w.le-then-le.result w.le-then-le.ensures).1 w.if-le-2.false)));
      }
      | else-le+in-Some w ↦ record {
        alike = rw w.alike-is old.alike;
        stretch = rw (w.standings-is, w.end-is, take_more part k 0 here) (stretch-begins xs _ (take k part) _ _ _ _ _ member at _
            old.stretch _ c.of-dates.result.first w.in-Some.before first (begun.1 w.if-le.false) w.in-Some.ensures.1
            w.min-end-in-Some.ensures (g.met.E.Entry.dates_ordered one));
      }
      | else-le+in_default w ↦ absurd (w.in_default.ensures (some-before _ _ (begun.1 w.if-le.false)))
    ]

pub returns-clause-stretch : goal.returns-clause-stretch
returns-clause-stretch g c = rw (take_all c.loop-index.index c.args.part.now c.loop-index-test.false) at c.loop-index.invariant.stretch

pub look_at-requires-clause-others : goal.look_at-requires-clause-others
look_at-requires-clause-others g c = below-same (length c.args.members.now.positions) (Leader (c.args.number + c.loop-index.index))
    (omega (arith, c.loop-index-test.true, c.requires.part.within))

pub look_at-requires-clause-alike : goal.look_at-requires-clause-alike
look_at-requires-clause-alike g c = c.loop-index.invariant.alike

pub look_at-requires-clause-below : goal.look_at-requires-clause-below
look_at-requires-clause-below g c = c.loop-index.invariant.stretch.below

pub returns-clause-alike : goal.returns-clause-alike
returns-clause-alike g c = c.loop-index.invariant.alike

pub overflow_add-number : goal.overflow_add-number
overflow_add-number g c = omega (arith, c.loop-index-test.true, c.requires.part.within, c.args.members.now.few)

pub overflow_add-others : goal.overflow_add-others
overflow_add-others g c = omega (arith, c.loop-index-test.true, c.requires.part.within, c.args.members.now.few)
