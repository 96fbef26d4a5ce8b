-- One week more goes behind the others (`range-push`).
use Rattle.cif_views.proofs.Names.{IsAppended, List, ap, arith, flat_map, range_with_len, state_in, subst, sym, week_line, week_of, ℕ, ◌+◌}
use Rattle.cif_views.proofs.{Names.◌-◌, Names.◌∙◌, Names.◌≡◌, WeekLines.range-push}
use Rattle.cif_canon.proofs.AppendedTexts.{behind}
use Rattle.cif_views.proofs.calendar_weeks.write_weeks.Goals as goal

pub loop-week-preserved : goal.loop-week-preserved
loop-week-preserved g c =
    let w = c.args.window.now in
    let line = week_line w.first w.last (state_in w.first c.args.states.now) in
    let a = week_of w.first in
    let n = c.loop-week.week - a in
    let here : a + n ≡ c.loop-week.week = omega arith in
    let next : n + 1 ≡ c.loop-week.week + 1 - a = omega arith in
    subst (λ (l : List ℕ). IsAppended g.W.Write.contents g.W.WriteDevice.write_errors
    (flat_map line l) c.args.sink.now c.write_week.new.sink)
    (sym (range-push a n c.loop-week.week here) ∙ ap (range_with_len a) next)
    (behind _ _ line (range_with_len a n) c.loop-week.week _ _ _ c.loop-week.invariant c.write_week.ensures)
