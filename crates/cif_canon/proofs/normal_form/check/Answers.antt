-- The counts are those of the canonical form (`counts`).
use Rattle.cif_canon.proofs.{Names.Ok, Names.goes-on, Names.hands-on, Normalising.counts, Normalising.counts-canon}
use Rattle.cif_canon.proofs.normal_form.check.Goals as goal

pub returns-in_err-read_canon : goal.returns-in_err-read_canon
returns-in_err-read_canon g c =
    hands-on _ _ _ _ _ _ _ (counts-canon c.args.max_lines c.args.asked.now c.args.form c.in_err-read_canon.field-0.0)
    c.in_err-read_canon.ensures _ c.from_residual.ensures.1

pub returns : goal.returns
returns g c =
    goes-on _ _ _ _ _ _ _ c.in_ok-read_canon.ensures (Ok c.counts-counts.result)
    (counts c.args.max_lines c.args.asked.now c.args.form c.in_ok-read_canon.field-0 c.counts-counts.result c.counts-counts.ensures)
