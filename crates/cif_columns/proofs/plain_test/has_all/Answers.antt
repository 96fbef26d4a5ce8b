-- Each step adds what its eight tests say, and sixteen steps see each column (`passes_by_fifths`).
use Rattle.cif_columns.proofs.Names.{arith, not-true, not_from_false, ◌≡◌}
use Rattle.cif_columns.proofs.LineFifths.{AreMet, none_more, none_of_eight, passes_by_fifths}
use Rattle.cif_columns.proofs.plain_test.has_all.Goals as goal

pub loop-i-preserved : goal.loop-i-preserved
loop-i-preserved c =
    let test = c.args.test.now in
    let line = c.args.columns.now in
    none_more c.loop-i.fails _ (AreMet test line) c.loop-i.i c.loop-i.invariant
    (none_of_eight _ _ _ _ _ _ _ _ test line c.loop-i.i c.fails_followed.ensures c.is_untimed.ensures
    c.fails_followed-in-loop-i.ensures c.is_untimed-in-loop-i.ensures c.fails_followed-in-loop-i-2.ensures
    c.fails_followed-in-loop-i-3.ensures c.is_unfollowed.ensures c.is_out_of_range.ensures)

pub returns : goal.returns
returns c =
    let all = passes_by_fifths c.args.test.now c.args.columns.now in
    let end : c.loop-i.i ≡ 16 = omega (arith, c.loop-i-test.false, c.loop-i.auto.i-end) in (
      (λ yes. all.0 (λ k lt. c.loop-i.invariant.0 (not-true c.loop-i.fails yes) k (omega (arith, end, lt)))),
      (λ h. not_from_false c.loop-i.fails (c.loop-i.invariant.1 (λ k lt. all.1 h k (omega (arith, end, lt))))),
    )
