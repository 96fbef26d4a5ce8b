-- The run at this place begins in the window, and takes its name (`map_over_more`); at the end all have theirs.
use Rattle.cif_weeks.proofs.Names.{ap, drop, map, named, set, source_at, subst, sym, take, unwrap_or, ◌++◌, ◌+◌, ◌∙◌, ◌≡◌}
use Rattle.std.proofs.lemmas.List.Edits.{map_over_more}
use Rattle.cif_weeks.proofs.calendar_runs.name_sources.Goals as goal

pub loop-place-preserved : goal.loop-place-preserved
loop-place-preserved c =
    let run = c.index-runs-place.result in
    let source : unwrap_or (source_at c.args.calendar.now.pieces run.first) run.source ≡ c.unwrap_or-source.result =
    ap (λ o. unwrap_or o run.source) (sym c.source_on.ensures.source) ∙ sym c.unwrap_or-source.ensures in
    subst (λ s. set c.loop-place.runs c.loop-place.place (record { first = run.first; last = run.last; days = run.days; source = s })
    ≡ map (named c.args.calendar.now) (take (c.loop-place.place + 1) c.args.runs.now) ++ drop (c.loop-place.place + 1) c.args.runs.now)
    source (map_over_more (named c.args.calendar.now) c.args.runs.now c.loop-place.runs c.loop-place.place run c.loop-place-test.true
    c.loop-place.invariant c.index-runs-place.is)
