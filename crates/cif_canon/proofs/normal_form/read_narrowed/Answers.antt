-- What is read is narrowed (`narrows`), or not (`narrows-not`).
use Rattle.cif_canon.proofs.Names.{Ok, goes-on, hands-either, hands-on}
use Rattle.cif_canon.proofs.Normalising.{narrows, narrows-not, reads-narrowed}
use Rattle.cif_canon.proofs.normal_form.read_narrowed.Goals as goal

pub returns-in_err-extract : goal.returns-in_err-extract
returns-in_err-extract g c =
    hands-on _ _ _ _ _ _ _ (reads-narrowed c.args.max_lines c.args.asked.now c.in_err-extract.field-0.0) c.in_err-extract.ensures _
    c.from_residual.ensures.1

pub returns-in_err-narrow : goal.returns-in_err-narrow
returns-in_err-narrow g c =
    let call = c.from_residual-in_err-narrow in
    goes-on _ _ _ _ _ _ _ c.in_ok-extract.ensures _
    (hands-either call.result c.in_err-narrow.field-0.0 call.ensures.1 _ _
    (narrows-not c.args.max_lines c.args.asked.now c.in_ok-extract.extract c.in_err-narrow.field-0.0 c.in_err-narrow.ensures.fault))

pub returns : goal.returns
returns g c =
    goes-on _ _ _ _ _ _ _ c.in_ok-extract.ensures (Ok c.narrow.new.extract)
    (narrows c.args.max_lines c.args.asked.now c.in_ok-extract.extract c.narrow.new.extract c.in_ok-narrow.ensures.ok)
