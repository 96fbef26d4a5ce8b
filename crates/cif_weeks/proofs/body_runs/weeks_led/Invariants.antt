-- The masks of the spans so far that are over the span, and of its rivals.
use Rattle.cif_weeks.proofs.{Names.HasDay, Names.HaveOneMask, Names.SomeOf, Names.take, Spans.IsOver, Spans.IsRival}
use Rattle.cif_weeks.proofs.body_runs.weeks_led.Given as goal

abbrev pub invariant-loop-other : goal.invariant-loop-other
invariant-loop-other l =
    let p = take l.other-index l.spans in
    record {
      over : HaveOneMask (SomeOf (IsOver l.span) HasDay p) l.week l.own.last (record { days = l.over; last = l.last });
      rivals : HaveOneMask (SomeOf (IsRival l.span) HasDay p) l.week l.own.last (record { days = l.rivals; last = l.last });
    }
