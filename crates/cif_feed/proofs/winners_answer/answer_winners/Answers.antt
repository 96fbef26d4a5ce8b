-- The winners of the extract with the holidays that were read are handed on; or there are none.
use Rattle.cif_feed.proofs.Names.{Ok, Some, [], inl, refl}
use Rattle.cif_feed.{proofs.WinnersRead.unshown-fault, specs.declared.feed_fault.FeedFault.TheVariants.Extract}
use Rattle.cif_extract.{proofs.ReadCalls.at-fault, specs.declared.fault.Fault.TheVariants.Write}
use Rattle.cif_feed.proofs.WinnersRead.{shown-answer, unhanded-winners, unhanded-winning, unshown-answer, winners-read}
use Rattle.cif_feed.proofs.winners_answer.answer_winners.Goals as goal

pub returns-in_err-read-clause-reads : goal.returns-in_err-read-clause-reads
returns-in_err-read-clause-reads g c =
    let call = c.from_residual in
    let f = c.in_err-read.field-0.0 in
    inl (f, at-fault call.result f call.ensures.1, refl {a = c.args.source.now}, c.in_err-read.ensures)

pub returns-in_err-dropped-clause-answer : goal.returns-in_err-dropped-clause-answer
returns-in_err-dropped-clause-answer g c =
    let call = c.from_residual-in_err-dropped in
    let f = c.in_err-dropped.field-0.0 in
    unshown-answer _ _ _ _ _ _ _ _ c.in_ok-read.read c.in_ok-read.ensures c.insert-holidays.result.now
    c.insert-holidays.ensures.value c.args.source.now c.write_winners.new.source _ f call.result
    (at-fault call.result f call.ensures.1) _ _ c.in_err-dropped.ensures.winners

pub returns-in_err-dropped-clause-fault : goal.returns-in_err-dropped-clause-fault
returns-in_err-dropped-clause-fault g c =
    let call = c.from_residual-in_err-dropped in
    let f = c.in_err-dropped.field-0.0 in
    unshown-fault _ _ g.W.Write.contents g.W.WriteDevice.write_errors c.args.drop_clashes c.args.format _ _ c.in_ok-read.read c.in_ok-read.ensures
    c.insert-holidays.result.now
    c.insert-holidays.ensures.value c.args.source.now c.write_winners.new.source [] f
    call.result (at-fault call.result f call.ensures.1) _ c.in_err-dropped.ensures.reads

pub returns-in_err-dropped-clause-reads : goal.returns-in_err-dropped-clause-reads
returns-in_err-dropped-clause-reads g c =
    let call = c.from_residual-in_err-dropped in
    let f = c.in_err-dropped.field-0.0 in
    winners-read _ _ c.args.drop_clashes _ _ _ _ c.in_ok-read.read c.in_ok-read.ensures c.insert-holidays.result.now c.insert-holidays.ensures.value
    c.write_winners.new.kept call.result
    (rw (at-fault call.result f call.ensures.1) c.in_err-dropped.ensures.reads)

pub returns-in_err-flush-clause-answer : goal.returns-in_err-flush-clause-answer
returns-in_err-flush-clause-answer g c =
    let call = c.from_residual-in_err-flush in
    unhanded-winners _ _ _ _ _ _ _ _ c.in_ok-read.read c.in_ok-read.ensures c.insert-holidays.result.now
    c.insert-holidays.ensures.value c.args.source.now c.write_winners.new.source _ _ _ _ c.in_ok-dropped.dropped
    c.in_ok-dropped.ensures.winners call.result (at-fault call.result (Extract Write) call.ensures.1) c.in_err-flush.ensures.writes

pub returns-in_err-flush-clause-reads : goal.returns-in_err-flush-clause-reads
returns-in_err-flush-clause-reads g c =
    let call = c.from_residual-in_err-flush in
    winners-read _ _ c.args.drop_clashes _ _ _ _ c.in_ok-read.read c.in_ok-read.ensures c.insert-holidays.result.now c.insert-holidays.ensures.value
    c.write_winners.new.kept call.result
    (unhanded-winning _ _ _ _ c.insert-holidays.result.now c.args.drop_clashes c.write_winners.new.kept c.in_ok-dropped.dropped call.result
    (at-fault call.result (Extract Write) call.ensures.1) c.in_ok-dropped.ensures.reads)

pub returns-clause-answer : goal.returns-clause-answer
returns-clause-answer g c =
    shown-answer _ _ _ _ _ _ _ _ c.in_ok-read.read c.in_ok-read.ensures c.insert-holidays.result.now
    c.insert-holidays.ensures.value c.args.source.now c.write_winners.new.source _ _ _ _ c.in_ok-dropped.dropped
    c.in_ok-dropped.ensures.winners (Some c.insert-holidays.result.now) c.write_winners.new.kept refl refl c.in_ok-dropped.ensures.reads
    c.in_ok-flush.ensures.writes

pub returns-clause-reads : goal.returns-clause-reads
returns-clause-reads g c =
    winners-read _ _ c.args.drop_clashes _ _ _ _ c.in_ok-read.read c.in_ok-read.ensures c.insert-holidays.result.now c.insert-holidays.ensures.value
    c.write_winners.new.kept (Ok c.in_ok-dropped.dropped) c.in_ok-dropped.ensures.reads
