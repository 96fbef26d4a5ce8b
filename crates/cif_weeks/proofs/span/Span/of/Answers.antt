-- The span has the days of the record in the window (`span-of`); where it has none (`span-none`), there is no span.
use Rattle.cif_weeks.proofs.{Names.window_days, Names.◌∙◌, Spans.day-later, Spans.span-none, Spans.span-of}
use Rattle.cif_weeks.proofs.span.Span.of.Goals as goal

pub returns-then-lt-clause-none : goal.returns-then-lt-clause-none
returns-then-lt-clause-none g c = let w = c.args.window.now in
    span-none (window_days w) (g.E.Entry.terms c.args.entry.now) c.max-first.result c.min-last.result
    (rw c.of-dates.ensures.first at c.max-first.ensures) (rw c.of-dates.ensures.last at c.min-last.ensures)
    (day-later _ _ c.lt.result c.lt.ensures c.if-lt.true)

pub returns-clause-some : goal.returns-clause-some
returns-clause-some g c = let w = c.args.window.now in
    span-of (window_days w) (g.E.Entry.terms c.args.entry.now) c.max-first.result c.min-last.result
    (rw c.of-dates.ensures.first at c.max-first.ensures) (rw c.of-dates.ensures.last at c.min-last.ensures)
    c.between.result (c.between.ensures.letter ∙ c.letter.ensures)
    (rw c.of-dates.ensures.days at c.between.ensures.days)
