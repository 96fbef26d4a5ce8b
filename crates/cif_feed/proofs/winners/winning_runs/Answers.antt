-- Key by key: the first positions are those of a key, whose runs go behind.
use Rattle.cif_feed.proofs.Names.{All-append, All-drop, All-take, List, PublishedSchedule, all-within, arith, keyed, length, nat_cmp}
use Rattle.cif_feed.proofs.Names.{schedule_terms, slice_cmp, ℕ, ◌<◌}
use Rattle.cif_feed.proofs.Names.{eqb-true, nil_from_length, subst, sym}
use Rattle.cif_feed.proofs.TrainRows.{AreMade, all-trains, next-train, no-train}
use Rattle.cif_feed.specs.Steps.Deciding.{AppliesAt, rows_of}
use Rattle.cif_weeks.specs.Window.{window_days}
use Rattle.cif_weeks.specs.declared.form.Run.{Run}
use Rattle.std.proofs.lemmas.List.Elements.{All-nil}
use Rattle.cif_calendar.proofs.KeyTurns.{rising-after}
use Rattle.cif_feed.proofs.winners.winning_runs.Goals as goal

pub loop-schedules-init : goal.loop-schedules-init
loop-schedules-init c = record {
  within = rw c.as_slice-rest.ensures.value (all-within (λ (s : PublishedSchedule). s.schedule.uid)
      (λ (s : PublishedSchedule). schedule_terms s.schedule) c.args.deciders.schedules.now c.in_ok-positions.positions.items
      c.in_ok-positions.ensures.within);
  rising = rw c.as_slice-rest.ensures.value c.in_ok-positions.ensures.rising;
  bounded = rw c.new-all.ensures.items (All-nil _);
  whole = λ days reads. rw (c.new-all.ensures.items, c.as_slice-rest.ensures.value) (no-train (window_days c.args.deciders.window.now)
      (AppliesAt c.args.deciders.holidays.now days c.args.deciders.window.now.last c.args.deciders.schedules.now)
      c.args.deciders.schedules.now c.in_ok-positions.positions.items c.in_ok-positions.ensures.whole c.in_ok-positions.ensures.rising);
}

pub by_precedence-requires : goal.by_precedence-requires
by_precedence-requires c = rw c.split_at.ensures.front
    (All-take (λ i. i < length c.args.deciders.schedules.now) _ _ c.loop-schedules.invariant.within)

pub decided-requires : goal.decided-requires
decided-requires c = rw c.as_slice.ensures.value c.in_ok-ranked.ensures.within

pub loop-schedules-preserved : goal.loop-schedules-preserved
loop-schedules-preserved c = record {
  within = rw c.split_at.ensures.back (All-drop (λ i. i < length c.args.deciders.schedules.now) c.count_of_first_key.result
      c.loop-schedules.rest.now c.loop-schedules.invariant.within);
  rising = rw c.split_at.ensures.back (rising-after (slice_cmp nat_cmp) (keyed (λ (s : PublishedSchedule). s.schedule.uid)
      (λ (s : PublishedSchedule). schedule_terms s.schedule) c.args.deciders.schedules.now) c.loop-schedules.rest.now
      c.loop-schedules.invariant.rising c.count_of_first_key.result);
  bounded = rw (c.in_ok-extend_from_slice.ensures.items, c.as_slice-in-loop-schedules.ensures.value)
      (All-append (λ (run : Run). run.source < length c.args.deciders.schedules.now) c.loop-schedules.all.items c.in_ok-runs.runs.items
      c.loop-schedules.invariant.bounded c.in_ok-runs.ensures.within);
  whole = λ days reads.
      let window = window_days c.args.deciders.window.now in
      let schedules = c.args.deciders.schedules.now in
      let applies = AppliesAt c.args.deciders.holidays.now days c.args.deciders.window.now.last schedules in
      rw (c.in_ok-extend_from_slice.ensures.items, c.as_slice-in-loop-schedules.ensures.value, c.split_at.ensures.back)
      (next-train window applies schedules c.loop-schedules.all.items c.in_ok-runs.runs.items c.loop-schedules.rest.now
      (c.loop-schedules.invariant.whole days reads) c.count_of_first_key.result c.count_of_first_key.ensures c.in_ok-ranked.ranked.items
      (rw c.split_at.ensures.front at c.in_ok-ranked.ensures.ranked) c.in_ok-ranked.ensures.in_order
      (rw c.as_slice.ensures.value at (c.in_ok-runs.ensures.decides days reads)));
}

pub returns-clause-within : goal.returns-clause-within
returns-clause-within c = c.loop-schedules.invariant.bounded

pub returns-clause-decides : goal.returns-clause-decides
returns-clause-decides c = λ days reads.
    let applies = AppliesAt c.args.deciders.holidays.now days c.args.deciders.window.now.last c.args.deciders.schedules.now in
    all-trains (window_days c.args.deciders.window.now) applies c.args.deciders.schedules.now
    (rows_of c.args.deciders.schedules.now c.loop-schedules.all.items)
    (subst (λ (rest : List ℕ). AreMade (window_days c.args.deciders.window.now) applies c.args.deciders.schedules.now
    (rows_of c.args.deciders.schedules.now c.loop-schedules.all.items) rest)
    (nil_from_length c.loop-schedules.rest.now (eqb-true _ _ (sym c.loop-schedules-test.ensures)))
    (c.loop-schedules.invariant.whole days reads))

pub loop-schedules-smaller : goal.loop-schedules-smaller
loop-schedules-smaller c =
    omega (arith, c.split_at.ensures.back_len, c.count_of_first_key.ensures.some, c.count_of_first_key.ensures.count.upto)

pub split_at-requires : goal.split_at-requires
split_at-requires c = c.count_of_first_key.ensures.count.upto
