-- The update that was read is done, or its first line that may not be done is reported (`updates`); or memory runs out.
use Rattle.cif_extract.{proofs.ReadCalls.hands-either, specs.declared.fault.Fault.TheVariants.Memory}
use Rattle.cif_feed.proofs.Names.{Extract, goes-on, hands-on, published_parts, refl}
use Rattle.cif_feed.proofs.UpdatesInTurn.{reads-updating, updates}
use Rattle.cif_feed.proofs.published_extract.PublishedExtract.update_from.Goals as goal

pub returns-clause-reads : goal.returns-clause-reads
returns-clause-reads g c =
    goes-on _ _ _ _ _ _ c.in_ok-update.update c.in_ok-update.ensures c.answer_of.result
    (updates c.args.how c.args.max_lines (published_parts c.args.self.now) (published_parts c.update.new.self) c.in_ok-update.update
    c.in_ok-waived.waived.items c.in_ok-waived.ensures.updated c.in_ok-waived.ensures.refused c.answer_of.result
    c.answer_of.ensures.done c.answer_of.ensures.said)

pub returns-in_err-waived-clause-reads : goal.returns-in_err-waived-clause-reads
returns-in_err-waived-clause-reads g c =
    let handed = c.from_residual-in_err-waived in
    goes-on _ _ _ _ _ _ c.in_ok-update.update c.in_ok-update.ensures handed.result
    (hands-either handed.result (Extract Memory) handed.ensures.1 _ _ (record { fault = λ bytes after is. tt; answers = tt; other = refl }))

pub returns-in_err-update-clause-reads : goal.returns-in_err-update-clause-reads
returns-in_err-update-clause-reads g c =
    let fault = c.in_err-update.field-0.0 in
    hands-on _ _ _ _ _ _ fault
    (reads-updating c.args.how c.args.max_lines (published_parts c.args.self.now) (published_parts c.args.self.now) fault)
    c.in_err-update.ensures _ c.from_residual.ensures.1
