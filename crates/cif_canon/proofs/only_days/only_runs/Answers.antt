-- What is left of the calendar's sources are sources, and its runs those of what only it says (`only-runs`).
use Rattle.cif_canon.proofs.{Names.IfOk-weaker, Names.map, OnlyRuns.only-runs, OnlyRuns.only-sources, OnlyRuns.rising-runs}
use Rattle.cif_canon.proofs.only_days.only_runs.Goals as goal

pub runs-requires : goal.runs-requires
runs-requires g c =
    let sources = only-sources (map g.E.Entry.terms c.args.entries.now) c.args.one.now (map g.E.Entry.terms c.args.others.now)
    c.args.other.now c.in_ok-only.only c.in_ok-only.ensures c.requires.left in
    record { sources = sources }

pub returns-clause-runs : goal.returns-clause-runs
returns-clause-runs g c =
    IfOk-weaker c.runs.result _ _ (λ found are. only-runs (map g.E.Entry.terms c.args.entries.now) c.args.one.now
    (map g.E.Entry.terms c.args.others.now) c.args.other.now c.in_ok-only.only c.in_ok-only.ensures found.items are) c.runs.ensures

pub returns-clause-rising : goal.returns-clause-rising
returns-clause-rising g c =
    IfOk-weaker c.runs.result _ _ (λ found are. rising-runs (map g.E.Entry.terms c.args.entries.now) c.in_ok-only.only found.items
    are.records are.runs_of are.meets.rising) c.runs.ensures
