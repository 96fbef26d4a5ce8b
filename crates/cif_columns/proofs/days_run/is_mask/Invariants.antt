-- `all` is the test of the columns so far.
use Rattle.cif_columns.proofs.Names.{is_flag, list_all, take, ◌≡◌}
use Rattle.cif_columns.proofs.days_run.is_mask.Given as goal

abbrev pub invariant-loop-c : goal.invariant-loop-c
invariant-loop-c l = l.all ≡ list_all is_flag (take l.c-index l.columns)
