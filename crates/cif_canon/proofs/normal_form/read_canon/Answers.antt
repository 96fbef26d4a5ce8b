-- What is read has a canonical form, narrowed, or it has none (`has-canon`).
use Rattle.cif_canon.proofs.{Names.goes-on, Names.hands-on, Normalising.has-canon, Normalising.reads-canon}
use Rattle.cif_canon.proofs.normal_form.read_canon.Goals as goal

pub returns-in_err-extract : goal.returns-in_err-extract
returns-in_err-extract g c =
    hands-on _ _ _ _ _ _ _ (reads-canon c.args.max_lines c.args.asked.now c.args.form c.in_err-extract.field-0.0) c.in_err-extract.ensures
    _ c.from_residual.ensures.1

pub returns : goal.returns
returns g c =
    goes-on _ _ _ _ _ _ _ c.in_ok-extract.ensures c.narrowed_canon.result
    (has-canon c.args.max_lines c.args.asked.now c.args.form c.in_ok-extract.extract c.narrowed_canon.result c.narrowed_canon.ensures)
