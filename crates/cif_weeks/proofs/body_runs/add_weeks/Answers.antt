-- Forms 1 and 2 join weeks (`grown-weeks`), and form 3 takes their days (`grown-days`).
use Rattle.cif_weeks.proofs.Names.{IfOk-weaker, Shows, window_days, ◌+◌}
use Rattle.cif_weeks.proofs.BodyRuns.{by-weeks, grown-days, grown-weeks}
use Rattle.cif_weeks.proofs.body_runs.add_weeks.Goals as goal

pub returns-in-One : goal.returns-in-One
returns-in-One c =
    let a = c.args in
    IfOk-weaker c.grow.result _ _ (λ _ e spans old next start.
    grown-weeks a.joining.now.form (by-weeks a.joining.now.form c.in-One.is) (window_days a.joining.now.window) (Shows spans a.source)
    a.source a.week (a.weeks.last + 1) old a.runs.now.items c.grow.new.runs.items (e spans old next start)) c.grow.ensures

pub returns-in-Three : goal.returns-in-Three
returns-in-Three c =
    let a = c.args in
    IfOk-weaker c.add_weeks_days.result _ _ (λ _ e spans old next start.
    grown-days a.joining.now.form c.in-Three.is (window_days a.joining.now.window) (Shows spans a.source)
    a.source a.week (a.weeks.last + 1) old a.runs.now.items c.add_weeks_days.new.runs.items (e spans old next start))
    c.add_weeks_days.ensures
