-- One column more is one more test (`list_all_more`).
use Rattle.cif_columns.proofs.Names.{ap, arith, get_or, is_flag, list_all, list_all_more, sym, take_all, ◌&&◌, ◌∙◌}
use Rattle.cif_columns.proofs.days_run.is_mask.Goals as goal

pub loop-c-preserved : goal.loop-c-preserved
loop-c-preserved c =
    let i = c.loop-c.c-index in
    let columns = c.args.columns.now in
    ap (λ all. all && is_flag (get_or columns i 0)) c.loop-c.invariant ∙ sym (list_all_more is_flag columns i 0 (omega arith))

pub returns : goal.returns
returns c = c.loop-c.invariant ∙ ap (list_all is_flag) (take_all _ c.args.columns.now (omega arith))
