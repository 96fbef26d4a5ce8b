-- The text is that of the canonical form, written whole (`normal-whole`) or as a prefix (`normal-prefix`), or nothing (`normal-silent`).
use Rattle.cif_canon.proofs.Names.{IsOfCheck, Ok, goes-on, hands-either, hands-on, refl, subst}
use Rattle.cif_canon.proofs.Normalising.{normal-prefix, normal-silent, normal-whole, writes, writes-canon, writes-not}
use Rattle.cif_canon.proofs.normal_form.normalise.Goals as goal

pub returns-in_err-canon-clause-normal : goal.returns-in_err-canon-clause-normal
returns-in_err-canon-clause-normal g c =
    normal-silent _ _ _ c.args.form c.args.asked.now c.args.max_lines c.args.sink.now c.args.sink.now c.in_err-canon.field-0.0
    (λ write. subst (IsOfCheck c.args.max_lines) write c.in_err-canon.ensures.answers) refl c.from_residual.result c.from_residual.ensures.1

pub returns-in_err-canon-clause-reads : goal.returns-in_err-canon-clause-reads
returns-in_err-canon-clause-reads g c =
    hands-on _ _ _ _ _ _ _ (writes-canon c.args.max_lines c.args.asked.now c.args.form c.in_err-canon.field-0.0) c.in_err-canon.ensures _
    c.from_residual.ensures.1

pub returns-in_err-write-clause-normal : goal.returns-in_err-write-clause-normal
returns-in_err-write-clause-normal g c =
    let call = c.from_residual-in_err-write in
    normal-prefix _ _ _ c.args.form c.args.asked.now c.args.max_lines _ _ c.in_ok-canon.canon c.in_ok-canon.ensures.ok
    c.in_err-write.field-0.0 c.in_err-write.ensures.fault c.in_err-write.ensures.writes call.result call.ensures.1

pub returns-in_err-write-clause-reads : goal.returns-in_err-write-clause-reads
returns-in_err-write-clause-reads g c =
    let call = c.from_residual-in_err-write in
    goes-on _ _ _ _ _ _ _ c.in_ok-canon.ensures _
    (hands-either call.result c.in_err-write.field-0.0 call.ensures.1 _ _
    (writes-not c.args.max_lines c.args.asked.now c.args.form c.in_ok-canon.canon c.in_err-write.field-0.0 c.in_err-write.ensures.fault))

pub returns-clause-normal : goal.returns-clause-normal
returns-clause-normal g c =
    normal-whole _ _ _ c.args.form c.args.asked.now c.args.max_lines _ _ c.in_ok-canon.canon c.in_ok-canon.ensures.ok c.counts.result
    c.counts.ensures c.in_ok-write.ensures.writes

pub returns-clause-reads : goal.returns-clause-reads
returns-clause-reads g c =
    goes-on _ _ _ _ _ _ _ c.in_ok-canon.ensures (Ok c.counts.result)
    (writes c.args.max_lines c.args.asked.now c.args.form c.in_ok-canon.canon c.counts.result c.counts.ensures)
