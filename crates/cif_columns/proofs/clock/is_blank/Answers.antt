-- A comparison with spaces tests each column (`spaces_are`).
use Rattle.cif_columns.proofs.Names.{ap, nat_eq, pointwise, replicate, sym, ◌∙◌}
use Rattle.cif_columns.proofs.Times.{spaces_are}
use Rattle.cif_columns.proofs.clock.is_blank.Goals as goal

pub returns : goal.returns
returns g c =
    c.eq.ensures ∙ ap (λ n. pointwise nat_eq c.args.columns.now (replicate n 32)) (sym c.told-columns) ∙ spaces_are c.args.columns.now
