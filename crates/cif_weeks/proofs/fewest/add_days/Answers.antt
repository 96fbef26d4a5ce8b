-- The last run goes on to the end (`few-longer`), or another begins (`few-more`); or it is the first (`few-first`).
use Rattle.cif_weeks.proofs.Names.{AreFewestBefore, HasGoneOn, Shows, [], ap, arith, length, refl, reverse, subst}
use Rattle.cif_weeks.proofs.Names.{◌++◌, ◌+◌, ◌-◌, ◌<◌, ◌∙◌, ◌∷◌, ◌≡◌}
use Rattle.cif_weeks.proofs.BodyRuns.{last-made, last-set, made-more, none-made}
use Rattle.cif_weeks.proofs.FewestRuns.{few-first, few-gap, few-longer, few-more}
use Rattle.cif_weeks.proofs.fewest.add_days.Goals as goal

pub returns-in_default : goal.returns-in_default
returns-in_default c spans old limit start f upto none (made, are, few) =
    let a = c.args in
    let on = Shows spans a.next.source in
    let source = a.next.source in
    let run = c.index.result.now in
    let place = c.len-place.result - 1 in
    let some : length old < length a.runs.now.items = omega (arith, c.if-start-len.true, c.len.ensures, a.runs.now.ok.0) in
    let long : place + 1 ≡ length a.runs.now.items = omega (arith, c.len-place.ensures, a.runs.now.ok.0, some) in
    let (before, is, cut, at) = last-made old a.runs.now.items made place run are some long c.index.ensures in
    let it = c.go_on-longer.result.0 in
    let known = subst (AreFewestBefore on source limit) is few in
    let (after, gap) = few-gap on source a.next f refl limit upto none run before known in
    let gone = c.go_on-longer.ensures spans source known.0.exact f after gap in (
      it ∷ before,
      last-set old a.runs.now.items before place run it cut at,
      few-longer on source a.next f refl limit upto none run it before known (subst (HasGoneOn on run a.next it) c.in_default.is gone),
    )

pub returns-then-start-len : goal.returns-then-start-len
returns-then-start-len c spans old limit start f upto none (made, are, few) =
    let a = c.args in
    let on = Shows spans a.next.source in
    let source = a.next.source in
    let run = c.index.result.now in
    let place = c.len-place.result - 1 in
    let some : length old < length a.runs.now.items = omega (arith, c.if-start-len.true, c.len.ensures, a.runs.now.ok.0) in
    let long : place + 1 ≡ length a.runs.now.items = omega (arith, c.len-place.ensures, a.runs.now.ok.0, some) in
    let (before, is, cut, at) = last-made old a.runs.now.items made place run are some long c.index.ensures in
    let it = c.go_on-longer.result.0 in
    let rest = c.in-Some.rest in
    let known = subst (AreFewestBefore on source limit) is few in
    let (after, gap) = few-gap on source a.next f refl limit upto none run before known in
    let gone = c.go_on-longer.ensures spans source known.0.exact f after gap in (
      rest ∷ it ∷ before,
      c.in_ok-push.ensures.items ∙ ap (λ ys. ys ++ rest ∷ []) (last-set old a.runs.now.items before place run it cut at)
          ∙ made-more old (it ∷ before) rest,
      few-more on source a.next f refl limit upto none run it before known rest (subst (HasGoneOn on run a.next it) c.in-Some.is gone),
    )

pub returns : goal.returns
returns c spans old limit start f upto none (made, are, few) =
    let a = c.args in
    let on = Shows spans a.next.source in
    let source = a.next.source in
    let is = none-made old a.runs.now.items made are (omega (arith, c.if-start-len.false, c.len.ensures, a.runs.now.ok.0)) in (
      a.next ∷ [],
      c.in_ok-push-2.ensures.items ∙ ap (λ ys. ys ++ a.next ∷ []) are ∙ made-more old made a.next
          ∙ ap (λ m. old ++ reverse (a.next ∷ m)) is,
      few-first on source a.next f refl limit upto none (subst (AreFewestBefore on source limit) is few),
    )
