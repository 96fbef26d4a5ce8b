-- After the last piece all days are known (`spans-done`). The runs of the spans, with the calendar's sources, are the calendar's
-- (`pieces-canonical`).
use Rattle.cif_weeks.proofs.Names.{AreSpansBefore, AreSpansOn, Span, answers_always, ap, arith, drop, drop_all, get_or, length, length-map}
use Rattle.cif_weeks.proofs.Names.{map, named, rules, slice_get-get_or, subst, sym, take-append_seam, ◌+◌, ◌<◌, ◌≡◌}
use Rattle.cif_weeks.proofs.PieceRuns.{firsts-inside, pieces-agreed, pieces-bodied, pieces-canonical, pieces-inside, pieces-level}
use Rattle.cif_weeks.proofs.PieceSpans.{no-piece, spans-done, tiles-next}
use Rattle.cif_weeks.proofs.{SourceRuns.by-source, calendar_runs.runs.Given.Over, calendar_runs.runs.Goals.After-as_slice}
use Rattle.cif_weeks.proofs.calendar_runs.runs.Goals as goal

pub add_piece-requires-clause-spans : goal.add_piece-requires-clause-spans
add_piece-requires-clause-spans g c piece at =
    let i = c.loop-number.invariant in
    let (begins, _) = tiles-next c.args.calendar.now.pieces c.loop-number.number i.limit (c.args.calendar.now.last + 1) piece at i.tiles in
    subst (λ v. AreSpansBefore (map g.E.Entry.terms c.args.entries.now) c.args.calendar.now v c.loop-number.spans.items) (sym begins)
    i.before

pub loop-number-preserved : goal.loop-number-preserved
loop-number-preserved g c =
    let i = c.loop-number.invariant in
    let pieces = c.args.calendar.now.pieces in
    let below : c.loop-number.number < length pieces =
    omega (arith, c.loop-number-test.true, ap length c.pieces-number-end.ensures.pieces) in
    let at = slice_get-get_or pieces c.loop-number.number no-piece below in
    let piece = get_or pieces c.loop-number.number no-piece in
    record {
      limit = piece.last + 1;
      tiles = (tiles-next pieces c.loop-number.number i.limit (c.args.calendar.now.last + 1) piece at i.tiles).1;
      before = c.in_ok-add_piece.ensures piece at;
    }

-- the spans of all pieces
all : (g : Over) (c : After-as_slice g) → AreSpansOn (map g.E.Entry.terms c.args.entries.now) c.args.calendar.now
    (λ n. n < c.args.calendar.now.last + 1) c.as_slice.result.now
all g c = let i = c.loop-number.invariant in
    rw c.as_slice.ensures.value (spans-done (map g.E.Entry.terms c.args.entries.now) c.args.calendar.now c.loop-number.spans.items _ i.limit
    (drop_all c.loop-number.number c.args.calendar.now.pieces
    (omega (arith, c.loop-number-test.false, ap length c.pieces-number-end.ensures.pieces))) i.tiles
    c.sort_unstable_by_key.ensures.permutation i.before.are)

pub add_runs_by_source-requires : goal.add_runs_by_source-requires
add_runs_by_source-requires g c =
    let sources = c.requires.sources in
    let here = all g (goal.at.add_runs_by_source-requires g c).After-as_slice in
    record {
      none = c.new-runs.ensures.items;
      inside = rw (c.window.ensures.first, c.window.ensures.last) (pieces-inside _ _ sources _ here);
      bodied = pieces-bodied _ _ sources _ here;
      level = pieces-level _ _ sources _ here;
      agreed = pieces-agreed _ _ sources _ here;
      order = rw c.as_slice.ensures.value (by-source c.sort_unstable_by_key.new.self.items (λ k d below.
          c.sort_unstable_by_key.ensures.sorted (λ (s : Span). (s.source, s.first_week))
          (answers_always _ _ _ (λ f a r f' called. search rules)) k d (omega arith) below));
    }

pub name_sources-requires : goal.name_sources-requires
name_sources-requires g c = rw c.as_mut_slice.ensures.value
    (firsts-inside _ _ c.requires.sources _ (all g (goal.at.name_sources-requires g c).After-as_slice) c.args.form _
    (rw (c.window.ensures.first, c.window.ensures.last) at c.in_ok-add_runs_by_source.ensures))

pub returns : goal.returns
returns g c =
    let items = c.add_runs_by_source.new.runs.items in
    let made = map (named c.args.calendar.now) items in
    let long : c.add_runs_by_source.new.runs.len ≡ length made =
    omega (arith, length-map items (named c.args.calendar.now), ap length c.as_mut_slice.ensures.value) in
    rw (c.name_sources.ensures, c.as_mut_slice.ensures.value, long, take-append_seam made (drop (length made) items))
    (pieces-canonical _ _ c.requires.sources c.as_slice.result.now (all g (goal.at.returns g c).After-as_slice) c.args.form items
    (rw (c.window.ensures.first, c.window.ensures.last) at c.in_ok-add_runs_by_source.ensures))
