-- One schedule decides by itself (`one-position`); of two lists the first goes before the other (`both-shown`).
use Rattle.cif_feed.proofs.Names.{List, length, map, subst, ℕ, ⊎_elim}
use Rattle.std.proofs.lemmas.Result.{IfOk-weaker}
use Rattle.cif_weeks.specs.{Window.window_days, declared.form.Run.Run}
use Rattle.cif_feed.specs.Steps.Deciding.{AppliesAt, AreShown, DecidesAmong, IsFirstOf, ShowsOn}
use Rattle.cif_feed.proofs.DecidingOrder.{both-shown, one-position, split-positions}
use Rattle.cif_feed.proofs.DecidingRuns.{shown-bound, sources-bound}
use Rattle.cif_feed.proofs.deciding.+decided.Goals as goal

pub returns-in-len1-clause-decides : goal.returns-in-len1-clause-decides
returns-in-len1-clause-decides n c = IfOk-weaker c.dates_alone.result _ _
    (λ runs shown days reads. subst (λ (l : List ℕ). AreShown (window_days c.args.deciders.window.now)
    (DecidesAmong (AppliesAt c.args.deciders.holidays.now days c.args.deciders.window.now.last c.args.deciders.schedules.now) l) runs.items)
    (one-position c.args.ranked.now c.in-len1.len_at_least c.in-len1.len_below (0, 0)) (shown days reads))
    c.dates_alone.ensures.decides

pub returns-in_ok-after-in_default-clause-within : goal.returns-in_ok-after-in_default-clause-within
returns-in_ok-after-in_default-clause-within n c =
    let before = c.in_ok-before-in_default.before.items in
    let after = c.in_ok-after-in_default.after.items in
    let bound = length c.args.deciders.schedules.now in
    IfOk-weaker c.merged.result _ _
    (λ runs shown. sources-bound (window_days c.args.deciders.window.now) (IsFirstOf (ShowsOn before) (ShowsOn after)) runs.items
    (subst (λ (l : List Run). AreShown (window_days c.args.deciders.window.now) (IsFirstOf (ShowsOn l) (ShowsOn after)) runs.items)
    c.as_slice.ensures.value (subst (λ (l : List Run). AreShown (window_days c.args.deciders.window.now)
    (IsFirstOf (ShowsOn c.as_slice.result.now) (ShowsOn l)) runs.items) c.as_slice-in_default.ensures.value shown)) bound
    (λ d i first. ⊎_elim (λ one. shown-bound before bound c.in_ok-before-in_default.ensures.within d i one)
    (λ two. shown-bound after bound c.in_ok-after-in_default.ensures.within d i two.1) first))
    c.merged.ensures

pub returns-in_ok-after-in_default-clause-decides : goal.returns-in_ok-after-in_default-clause-decides
returns-in_ok-after-in_default-clause-decides n c =
    let before = c.in_ok-before-in_default.before.items in
    let after = c.in_ok-after-in_default.after.items in
    let window = window_days c.args.deciders.window.now in
    let front = c.split_at.result.0.now in
    let back = c.split_at.result.1.now in
    IfOk-weaker c.merged.result _ _
    (λ runs shown days reads.
    let applies = AppliesAt c.args.deciders.holidays.now days c.args.deciders.window.now.last c.args.deciders.schedules.now in
    subst (λ (l : List ℕ). AreShown window (DecidesAmong applies l) runs.items)
    (split-positions c.args.ranked.now front back _ c.split_at.ensures.front c.split_at.ensures.back)
    (both-shown applies window (map (λ (p : ℕ × ℕ). p.1) front) (map (λ (p : ℕ × ℕ). p.1) back) before after runs.items
    (c.in_ok-before-in_default.ensures.decides days reads) (c.in_ok-after-in_default.ensures.decides days reads)
    (subst (λ (l : List Run). AreShown window (IsFirstOf (ShowsOn l) (ShowsOn after)) runs.items)
    c.as_slice.ensures.value (subst (λ (l : List Run). AreShown window
    (IsFirstOf (ShowsOn c.as_slice.result.now) (ShowsOn l)) runs.items) c.as_slice-in_default.ensures.value shown))))
    c.merged.ensures
