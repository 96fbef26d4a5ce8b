-- The entries are the dates of both lists, and the first go before the others (`merged-clear`, `merged-shown`).
use Rattle.cif_feed.proofs.Names.{List, ap, map, take_all, true, false, ◌++◌, ◌∙◌, ◌≡◌}
use Rattle.std.proofs.lemmas.Result.{IfOk-weaker}
use Rattle.cif_weeks.specs.{Window.window_days, declared.form.Run.Run}
use Rattle.cif_feed.specs.Steps.Deciding.{dates_with}
use Rattle.cif_feed.proofs.MergedDates.{merged-clear, merged-shown}
use Rattle.cif_feed.proofs.deciding.merged.Goals as goal
use Rattle.cif_feed.proofs.deciding.merged.Goals.{After-as_slice}

all : (c : After-as_slice) → c.as_slice.result.now ≡ map (dates_with true) c.args.before.now ++ map (dates_with false) c.args.after.now
all c = c.as_slice.ensures.value ∙ (c.loop-run-2.invariant
    ∙ ap (λ (l : List Run). map (dates_with true) c.args.before.now ++ map (dates_with false) l)
    (take_all c.loop-run-2.run-index c.args.after.now c.loop-run-2-test.false))

pub runs_of-requires : goal.runs_of-requires
runs_of-requires c =
    rw (all (goal.at.runs_of-requires c).After-as_slice)
    (merged-clear (window_days c.args.window.now) c.args.before.now c.args.after.now c.requires.before c.requires.after)

pub returns : goal.returns
returns c = IfOk-weaker c.runs_of.result _ _
    (λ runs shown. merged-shown (window_days c.args.window.now) c.args.before.now c.args.after.now c.requires.before c.requires.after
    runs.items (rw (all (goal.at.returns c).After-as_slice) at shown)) c.runs_of.ensures
