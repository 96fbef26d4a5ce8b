-- The run at this place has an entry (`place-within`), and takes the position of its schedule (`map_over_more`).
use Rattle.cif_feed.proofs.Names.{drop, get_or, map, set, slice_get, subst, take, ◌++◌, ◌+◌, ◌≡◌}
use Rattle.std.proofs.lemmas.List.Edits.{map_over_more}
use Rattle.cif_feed.specs.Steps.Deciding.{source_in, sourced}
use Rattle.cif_feed.proofs.DecidingRuns.{entry-source, place-within}
use Rattle.cif_feed.proofs.deciding.name_sources.Goals as goal

pub loop-place-preserved : goal.loop-place-preserved
loop-place-preserved c =
    let run = c.index-runs-place.result in
    let d = c.index-entries-run.result in
    let source : source_in (slice_get c.args.entries.now run.source) run.source ≡ (get_or c.args.entries.now run.source d).run.source =
    entry-source c.args.entries.now run.source d run.source
    (place-within c.args.entries.now c.args.runs.now c.loop-place.runs c.loop-place.place c.requires c.loop-place-test.true
    c.loop-place.invariant run c.index-runs-place.is) in
    subst (λ s. set c.loop-place.runs c.loop-place.place (record { first = run.first; last = run.last; days = run.days; source = s })
    ≡ map (sourced c.args.entries.now) (take (c.loop-place.place + 1) c.args.runs.now) ++ drop (c.loop-place.place + 1) c.args.runs.now)
    source (map_over_more (sourced c.args.entries.now) c.args.runs.now c.loop-place.runs c.loop-place.place run c.loop-place-test.true
    c.loop-place.invariant c.index-runs-place.is)
