-- It applies on none of the dates: no date before its first or after its last is one of its own (`passed`).
use Rattle.cif_feed.proofs.{Names.◌<◌, Names.◌∙◌, Names.◌≡◌, PartLists.gt-after, PartLists.left-contains, PartLists.passed}
use Rattle.cif_feed.proofs.Names.{AppliesAsPublished, arith, cases_lt, ended, false≢true, get_or, get_or_read, refl, subst, sym, ℕ, ⊎_elim}
use Rattle.cif_feed.proofs.cut_count.applies_on_any.Goals as goal

pub returns-then-gt : goal.returns-then-gt
returns-then-gt g c = (
  λ e. absurd (false≢true e),
  λ some. let left = c.from_day-later.ensures in
      let later = c.from_day-later.result.now in
      let index = c.loop-day.day-index in
      let at = get_or_read later index c.day-item.result c.loop-day-test.true c.day-item.is 0 in
      let after = gt-after c.day-item.result c.args.last c.gt.result c.gt.ensures c.if-gt.true in
      let begun = some.2.applies.begun in
      let upto = some.2.applies.unfinished in
      absurd (passed c.args.dates.now later
      (λ (d : ℕ). AppliesAsPublished c.args.holidays.now c.args.code (ended c.args.last (g.E.Entry.terms c.args.entry.now)) d)
      c.first.result left.place index c.requires left.before left.is c.loop-day.invariant some.0 (omega (arith, c.first.ensures))
      (λ below. omega (arith, at)) some.1 some.2),
)

pub returns : goal.returns
returns g c = (
  λ e. absurd (false≢true e),
  λ some. let left = c.from_day-later.ensures in
      let later = c.from_day-later.result.now in
      let index = c.loop-day.day-index in
      let begun = some.2.applies.begun in
      absurd (passed c.args.dates.now later
      (λ (d : ℕ). AppliesAsPublished c.args.holidays.now c.args.code (ended c.args.last (g.E.Entry.terms c.args.entry.now)) d)
      c.first.result left.place index c.requires left.before left.is c.loop-day.invariant some.0 (omega (arith, c.first.ensures))
      (λ below. absurd (omega (arith, c.loop-day-test.false))) some.1 some.2),
)

pub loop-day-preserved : goal.loop-day-preserved
loop-day-preserved g c = λ k below.
    let later = c.from_day-later.result.now in
    let index = c.loop-day.day-index in
    let at = get_or_read later index c.day-item.result c.loop-day-test.true c.day-item.is 0 in
    let P = λ (d : ℕ). AppliesAsPublished c.args.holidays.now c.args.code (ended c.args.last (g.E.Entry.terms c.args.entry.now)) d in
    ⊎_elim
    (λ (early : k < index). c.loop-day.invariant k early)
    (λ late on. let here : k ≡ index = omega arith in
    false≢true (sym c.if-applies_on.false ∙ c.applies_on.ensures.1
    (subst P (sym at) (subst (λ (j : ℕ). P (get_or later j 0)) here on))))
    (cases_lt k index)

pub returns-then-applies_on : goal.returns-then-applies_on
returns-then-applies_on g c = (
  λ e. (
    c.day-item.result,
    left-contains c.args.dates.now c.from_day-later.result.now c.from_day-later.ensures.place c.loop-day.day-index c.day-item.result
        c.from_day-later.ensures.is c.loop-day-test.true c.day-item.is,
    c.applies_on.ensures.0 c.if-applies_on.true,
  ),
  λ some. refl,
)
