-- Weeks without a day change nothing (`body-idle`); else the run goes on in them (`grow-longer`), or one begins (`grow-first`,
-- `grow-next`).
use Rattle.cif_weeks.proofs.Names.{AreBodyRuns, Run, Shows, [], ap, arith, length, refl, subst, sym, week_of, weekday_of, window_days, ◌+◌}
use Rattle.cif_weeks.proofs.Names.{◌-◌, ◌<◌, ◌∙◌, ◌∷◌, ◌≡◌}
use Rattle.cif_weeks.proofs.BodyRuns.{body-idle, first-date, grow-first, grow-longer, grow-next, last-date, last-made, last-set, made-more}
use Rattle.cif_weeks.{proofs.BodyRuns.none-made, proofs.body_runs.grow.Goals.then-start-len+else-week}
use Rattle.cif_weeks.proofs.body_runs.grow.Goals as goal
use Rattle.cif_weeks.proofs.body_runs.grow.Goals.{else-start-len, else-week-via-else-week, else-week-via-then-week+else-agree}

pub returns-in_default : goal.returns-in_default
returns-in_default c spans old next start (made, are, body) =
    let a = c.args in (
      made,
      are,
      body-idle a.joining.now.form (window_days a.joining.now.window) (Shows spans a.source) a.source a.week
          (a.weeks.last + 1) made (omega (arith, next.one_mask.from))
          (λ n from less on.
          c.in_default.ensures.none (weekday_of n) ((next.one_mask.masks (week_of n) from (omega arith)).shows n refl on))
          body,
    )

pub returns-then-agree : goal.returns-then-agree
returns-then-agree c spans old next start (made, are, body) =
    let a = c.args in
    let window = window_days a.joining.now.window in
    let run = c.index-run.result.now in
    let place = c.len-place.result - 1 in
    let some : length old < length a.runs.now.items = omega (arith, c.if-start-len.true, c.len.ensures, a.runs.now.ok.0) in
    let long : place + 1 ≡ length a.runs.now.items = omega (arith, c.len-place.ensures, a.runs.now.ok.0) in
    let (before, is, cut, at) = last-made old a.runs.now.items made place run are some long c.index-run.ensures in
    let it : Run = record { first = run.first; last = c.day_of-last.result; days = c.union-days.result; source = run.source } in (
      it ∷ before,
      last-set old a.runs.now.items before place run it cut at,
      grow-longer a.joining.now.form window (Shows spans a.source) a.source next.inside c.requires.by_weeks
          a.week a.weeks.last a.weeks
          next.one_mask
          c.in-Some.first_weekday c.in-Some-last.last_weekday c.in-Some.ensures.found c.in-Some-last.ensures.found c.day_of-last.result
          c.day_of-last.ensures before run c.union-days.result
          (subst (AreBodyRuns a.joining.now.form window (Shows spans a.source) a.source a.week) is body)
          (ap (λ v. v + 1) (sym c.week.ensures) ∙ c.if-week.true) c.if-agree.ensures c.union-days.ensures.width c.union-days.ensures.runs,
    )

pub day_of-last-requires-clause-in_range : goal.day_of-last-requires-clause-in_range
day_of-last-requires-clause-in_range c =
    let (spans, next) = c.requires.shown in
    last-date c.args.joining.now.form _ (Shows spans c.args.source) c.args.source next.inside c.requires.by_weeks
    c.args.week c.args.weeks.last c.args.weeks
    next.one_mask _ _ c.in-Some.ensures.found c.in-Some-last.ensures.found c.requires.in_range

pub day_of-requires-clause-in_range : goal.day_of-requires-clause-in_range
day_of-requires-clause-in_range c =
    let (spans, next) = c.requires.shown in
    first-date c.args.joining.now.form _ (Shows spans c.args.source) c.args.source next.inside c.requires.by_weeks
    c.args.week c.args.weeks.last c.args.weeks
    next.one_mask _ _ c.in-Some.ensures.found c.in-Some-last.ensures.found c.requires.in_range

pub returns : goal.returns
returns c spans old next start (made, are, body) =
    let a = c.args in
    let window = window_days a.joining.now.window in
    let it : Run = record { first = c.day_of.result; last = c.day_of-last.result; days = a.weeks.days; source = a.source } in (
      it ∷ made,
      rw (c.in_ok-push.ensures.items, are) (made-more old made it),
      elim c.if-start-len.branch [
        | then-start-len+else-week w ↦
            let run = w.index-run.result.now in
            let some : length old < length a.runs.now.items = omega (arith, w.if-start-len.true, c.len.ensures, a.runs.now.ok.0) in
            let long : (w.len-place.result - 1) + 1 ≡ length a.runs.now.items = omega (arith, w.len-place.ensures, a.runs.now.ok.0) in
            let (before, is, cut, at) = last-made old a.runs.now.items made _ run are some long w.index-run.ensures in
            rw is (grow-next a.joining.now.form window (Shows spans a.source) a.source next.inside c.requires.by_weeks
            a.week a.weeks.last a.weeks
            next.one_mask
            c.in-Some.first_weekday c.in-Some-last.last_weekday c.in-Some.ensures.found c.in-Some-last.ensures.found c.day_of-last.result
            c.day_of-last.ensures c.day_of.result c.day_of.ensures before run
            (subst (AreBodyRuns a.joining.now.form window (Shows spans a.source) a.source a.week) is body)
            (λ follows. elim w.else-week.branch [
              | else-week-via-then-week+else-agree v ↦ v.if-agree.ensures _ follows
              | else-week-via-else-week v ↦ absurd (v.if-week.false (ap (λ n. n + 1) w.week.ensures ∙ follows))
            ]))
        | else-start-len w ↦
            let none : made ≡ [] = none-made old a.runs.now.items made are
            (omega (arith, w.if-start-len.false, c.len.ensures, a.runs.now.ok.0)) in
            rw none (grow-first a.joining.now.form window (Shows spans a.source) a.source next.inside c.requires.by_weeks
            a.week a.weeks.last a.weeks
            next.one_mask
            c.in-Some.first_weekday c.in-Some-last.last_weekday c.in-Some.ensures.found c.in-Some-last.ensures.found c.day_of-last.result
            c.day_of-last.ensures c.day_of.result c.day_of.ensures
            (subst (AreBodyRuns a.joining.now.form window (Shows spans a.source) a.source a.week) none body))
      ],
    )
