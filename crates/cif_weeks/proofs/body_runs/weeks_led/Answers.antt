-- A span is over this one, or its rival, or neither. Those that aren't looked at have no day in these weeks (`some-all`).
use Rattle.cif_weeks.proofs.Names.{arith, iff_false, sym, ◌∙◌}
use Rattle.cif_weeks.{proofs.LetterOrder.letter-before, proofs.LetterOrder.letter-same, proofs.Spans.take_next}
use Rattle.cif_weeks.{proofs.body_runs.weeks_led.Goals.then-loop-other-test+then-last-other, proofs.body_runs.weeks_led.Goals.then-lt}
use Rattle.cif_weeks.proofs.Spans.{AreLater, later-none, later-rest, led-agreed, led-disputed, led-weeks, some-all, some-more, some-same}
use Rattle.cif_weeks.proofs.body_runs.weeks_led.Goals as goal
use Rattle.cif_weeks.proofs.body_runs.weeks_led.Goals.{After-fits, else-eq-via-else-eq, else-eq-via-then-eq+else-other-span}
use Rattle.cif_weeks.proofs.body_runs.weeks_led.Goals.{else-loop-other-test, else-lt+else-eq, else-lt+then-eq+then-other-span}

pub loop-other-preserved : goal.loop-other-preserved
loop-other-preserved c =
    let l = c.loop-other.invariant in
    let t = c.other-item.result in
    let next = take_next c.args.spans.now c.loop-other.other-index t c.loop-other-test.true c.other-item.is in
    let before = letter-before t.letter c.args.span.now.letter in
    let same = letter-same t.letter c.args.span.now.letter in
    elim c.if-lt.branch [
      | then-lt w ↦
          let k = w.weeks_from-weeks.ensures in
          let u = w.union-over.ensures in
          let over = before.0 (sym c.lt.ensures ∙ w.if-lt.true) in
          rw (next, w.last-is, w.over-is, w.rivals-is) (record {
            over = some-more t l.over over k u.width u.runs;
            rivals = some-same t l.rivals (λ rival. omega (arith, over, rival.0)) k.from k.upto;
          })
      | else-lt+then-eq+then-other-span w ↦
          let k = w.weeks_from-weeks-then-other-span.ensures in
          let u = w.union-rivals.ensures in
          rw (next, w.last-is, w.over-is, w.rivals-is) (record {
            over = some-same t l.over (iff_false before (sym c.lt.ensures ∙ w.if-lt.false)) k.from k.upto;
            rivals = some-more t l.rivals (same.0 (sym w.eq.ensures ∙ w.if-eq.true), λ one. omega arith) k u.width u.runs;
          })
      | else-lt+else-eq w ↦
          rw (next, w.last-is, w.over-is, w.rivals-is) (record {
            over = some-same t l.over (iff_false before (sym c.lt.ensures ∙ w.if-lt.false)) l.over.from (omega arith);
            rivals = some-same t l.rivals
                (λ rival. elim w.else-eq.branch [
                  | else-eq-via-then-eq+else-other-span v ↦ rival.1 (omega arith)
                  | else-eq-via-else-eq v ↦ iff_false same (sym w.eq.ensures ∙ v.if-eq.false) rival.0
                ])
                l.rivals.from (omega arith);
          })
    ]

-- those that weren't looked at begin later
later : (c : After-fits) → AreLater c.args.spans.now c.loop-other.other-index c.loop-other.last
later c = elim c.loop-other-test.branch [
  | else-loop-other-test w ↦ later-none c.args.spans.now c.loop-other.other-index c.loop-other.last (omega (arith, w.loop-other-test.false))
  | then-loop-other-test+then-last-other w ↦ later-rest c.args.spans.now c.loop-other.other-index c.loop-other.last w.other-item.result
      c.requires.order w.loop-other-test.true w.other-item.is w.if-last-other.true
]

pub returns-in-None-clause-weeks : goal.returns-in-None-clause-weeks
returns-in-None-clause-weeks c =
    let after = later (goal.at.returns-in-None-clause-weeks c).After-fits in
    led-weeks c.weeks_from-own.ensures (some-all (λ s n on. on) c.args.spans.now _ _ after c.loop-other.invariant.over)
    c.fits.ensures c.minus-days.ensures

pub returns-in-None-clause-agreed : goal.returns-in-None-clause-agreed
returns-in-None-clause-agreed c =
    let after = later (goal.at.returns-in-None-clause-agreed c).After-fits in
    led-agreed c.weeks_from-own.ensures (some-all (λ s n on. on) c.args.spans.now _ _ after c.loop-other.invariant.over)
    c.fits.ensures c.minus-days.ensures (some-all (λ s n on. on) c.args.spans.now _ _ after c.loop-other.invariant.rivals)
    (λ w both. c.in-None.ensures.none w ((c.intersection.ensures.runs w).1 both)) c.requires.listed

pub returns-in-Some-clause-disputed : goal.returns-in-Some-clause-disputed
returns-in-Some-clause-disputed c =
    let after = later (goal.at.returns-in-Some-clause-disputed c).After-fits in
    let both = (c.intersection.ensures.runs c.in-Some.field-0).0 c.in-Some.ensures.found.runs in
    let over = some-all (λ s n on. on) c.args.spans.now _ _ after c.loop-other.invariant.over in
    led-disputed (led-weeks c.weeks_from-own.ensures over c.fits.ensures c.minus-days.ensures)
    (some-all (λ s n on. on) c.args.spans.now _ _ after c.loop-other.invariant.rivals) c.in-Some.field-0 both.0 both.1
    c.requires.listed
