-- Which weekdays there are in the first week, the last, and those between is said of the span (`span-mask`).
use Rattle.cif_weeks.proofs.{Names.arith, Names.refl, Names.sym, Names.◌∙◌, Spans.span-mask, Spans.week-alone}
use Rattle.cif_weeks.proofs.span.Span.weeks_from.Goals as goal
use Rattle.cif_weeks.proofs.span.Span.weeks_from.Goals.{else-is, else-week-self-3-via-else-week-self-3}
use Rattle.cif_weeks.proofs.span.Span.weeks_from.Goals.{else-week-self-3-via-then-week-self-3+else-not-is, then-is}

pub returns-then-week-self-2 : goal.returns-then-week-self-2
returns-then-week-self-2 c =
    let s = c.args.self.now in
    week-alone s c.args.week c.args.until s.last_days c.requires (span-mask s c.args.week s.last_days c.if-week-self.false
    c.if-self-week.false c.fits-3.ensures (λ first. s.one_week (sym first ∙ c.if-week-self-2.true)) (λ last. refl)
    (λ later sooner. absurd (omega (arith, c.if-week-self-2.true, sooner))))

pub returns-then-not-is : goal.returns-then-not-is
returns-then-not-is c =
    let s = c.args.self.now in
    week-alone s c.args.week c.args.until s.first_days c.requires (span-mask s c.args.week s.first_days c.if-week-self.false
    c.if-self-week.false c.fits-2.ensures (λ first. refl) (λ last. absurd (c.if-week-self-2.false last))
    (λ later sooner. absurd (omega (arith, c.if-week-self-3.true, later))))

pub returns : goal.returns
returns c =
    let s = c.args.self.now in
    record {
      from = elim c.if-is.branch [ then-is w ↦ omega arith | else-is w ↦ omega arith ];
      upto = omega arith;
      masks = λ v begun unfinished. span-mask s v s.days (omega (arith, begun, c.if-week-self.false))
          (elim c.if-is.branch [ then-is w ↦ omega arith | else-is w ↦ omega arith ])
          c.fits.ensures
          (λ first. elim c.else-week-self-3.branch [
            | else-week-self-3-via-then-week-self-3+else-not-is w ↦ w.is.ensures.0 w.if-not-is.false
            | else-week-self-3-via-else-week-self-3 w ↦ absurd (w.if-week-self-3.false (omega arith))
          ])
          (λ last. elim c.if-is.branch [ then-is w ↦ c.is-2.ensures.0 w.if-is.true | else-is w ↦ absurd (omega arith) ])
          (λ later sooner. refl);
    }
