-- Each run is of an entry (`sources-within`); with the positions of schedules the runs show what runs by the entries (`named-shown`).
use Rattle.cif_feed.proofs.Names.{ap, arith, drop, length, length-map, map, take-append_seam, ◌≡◌}
use Rattle.cif_weeks.specs.Window.{window_days}
use Rattle.cif_feed.specs.Steps.Deciding.{sourced}
use Rattle.cif_feed.proofs.DecidingRuns.{named-shown, sources-within}
use Rattle.cif_feed.proofs.deciding.runs_of.Goals as goal

pub name_sources-requires : goal.name_sources-requires
name_sources-requires c =
    let made = c.in_ok-made.ensures in
    rw c.as_mut_slice.ensures.value (sources-within c.args.entries.now c.in_ok-made.made.items made.records made.runs_of)

pub returns : goal.returns
returns c =
    let items = c.in_ok-made.made.items in
    let made = map (sourced c.args.entries.now) items in
    let long : c.in_ok-made.made.len ≡ length made =
    omega (arith, length-map items (sourced c.args.entries.now), ap length c.as_mut_slice.ensures.value) in
    rw (c.name_sources.ensures, c.as_mut_slice.ensures.value, long, take-append_seam made (drop (length made) items))
    (named-shown c.args.entries.now (window_days c.args.window.now) items c.in_ok-made.ensures)
