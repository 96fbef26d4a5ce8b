-- One column more by `used_next`; at the end these are all columns.
use Rattle.cif_columns.proofs.Names.{ap, cond, get_or, is_space, length, subst, sym, take_all, used, ◌+◌, ◌∙◌, ◌≤◌}
use Rattle.cif_columns.proofs.KeptLines.{used_few, used_next}
use Rattle.cif_columns.proofs.lines.count_used.Goals as goal

pub loop-i-preserved : goal.loop-i-preserved
loop-i-preserved c =
    let columns = c.args.columns.now in
    c.used_up_to-count.ensures
    ∙ ap (λ n. cond (is_space (get_or columns c.loop-i.i 0)) n (c.loop-i.i + 1)) c.loop-i.invariant
    ∙ sym (used_next columns c.loop-i.i c.loop-i-test.true)

pub returns-clause-bound : goal.returns-clause-bound
returns-clause-bound c =
    subst (λ n. n ≤ length c.args.columns.now)
    (sym (c.loop-i.invariant ∙ ap used (take_all c.loop-i.i c.args.columns.now c.loop-i-test.false))) (used_few c.args.columns.now)
