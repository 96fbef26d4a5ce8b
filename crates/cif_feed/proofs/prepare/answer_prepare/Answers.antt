-- The extract is prepared with the holidays that were read, and its text is handed on; or it isn't.
use Rattle.cif_feed.proofs.Names.{Ok, Some, [], inl, refl}
use Rattle.cif_feed.{proofs.PreparedRead.unprepared-fault, specs.declared.feed_fault.FeedFault.TheVariants.Extract}
use Rattle.cif_extract.{proofs.ReadCalls.at-fault, specs.declared.fault.Fault.TheVariants.Write}
use Rattle.cif_feed.proofs.PreparedRead.{prepared-answer, prepared-read, unhanded-answer, unhanded-read, unprepared-answer}
use Rattle.cif_feed.proofs.prepare.answer_prepare.Goals as goal

pub returns-in_err-read-clause-reads : goal.returns-in_err-read-clause-reads
returns-in_err-read-clause-reads g c =
    let call = c.from_residual in
    let f = c.in_err-read.field-0.0 in
    inl (f, at-fault call.result f call.ensures.1, refl {a = c.args.source.now}, c.in_err-read.ensures)

pub returns-in_err-dropped-clause-answer : goal.returns-in_err-dropped-clause-answer
returns-in_err-dropped-clause-answer g c =
    let call = c.from_residual-in_err-dropped in
    let f = c.in_err-dropped.field-0.0 in
    unprepared-answer _ _ _ _ _ _ _ c.in_ok-read.read c.in_ok-read.ensures c.insert-holidays.result.now
    c.insert-holidays.ensures.value c.args.source.now c.write_prepared.new.source _ f call.result
    (at-fault call.result f call.ensures.1) _ _ c.in_err-dropped.ensures.prepared

pub returns-in_err-dropped-clause-fault : goal.returns-in_err-dropped-clause-fault
returns-in_err-dropped-clause-fault g c =
    let call = c.from_residual-in_err-dropped in
    let f = c.in_err-dropped.field-0.0 in
    unprepared-fault _ _ g.W.Write.contents g.W.WriteDevice.write_errors c.args.drop_clashes _ _ c.in_ok-read.read c.in_ok-read.ensures
    c.insert-holidays.result.now
    c.insert-holidays.ensures.value c.args.source.now c.write_prepared.new.source [] f
    call.result (at-fault call.result f call.ensures.1) _ c.in_err-dropped.ensures.reads

pub returns-in_err-dropped-clause-reads : goal.returns-in_err-dropped-clause-reads
returns-in_err-dropped-clause-reads g c =
    let call = c.from_residual-in_err-dropped in
    let f = c.in_err-dropped.field-0.0 in
    prepared-read _ _ _ _ _ _ c.in_ok-read.read c.in_ok-read.ensures c.insert-holidays.result.now c.insert-holidays.ensures.value
    c.write_prepared.new.kept call.result
    (rw (at-fault call.result f call.ensures.1) c.in_err-dropped.ensures.reads)

pub returns-in_err-flush-clause-answer : goal.returns-in_err-flush-clause-answer
returns-in_err-flush-clause-answer g c =
    let call = c.from_residual-in_err-flush in
    unhanded-answer _ _ _ _ _ _ _ c.in_ok-read.read c.in_ok-read.ensures c.insert-holidays.result.now
    c.insert-holidays.ensures.value c.args.source.now c.write_prepared.new.source _ _ _ _ c.in_ok-dropped.dropped
    c.in_ok-dropped.ensures.prepared call.result (at-fault call.result (Extract Write) call.ensures.1) c.in_err-flush.ensures.writes

pub returns-in_err-flush-clause-reads : goal.returns-in_err-flush-clause-reads
returns-in_err-flush-clause-reads g c =
    let call = c.from_residual-in_err-flush in
    prepared-read _ _ _ _ _ _ c.in_ok-read.read c.in_ok-read.ensures c.insert-holidays.result.now c.insert-holidays.ensures.value
    c.write_prepared.new.kept call.result
    (unhanded-read _ _ _ _ c.insert-holidays.result.now c.write_prepared.new.kept c.in_ok-dropped.dropped call.result
    (at-fault call.result (Extract Write) call.ensures.1) c.in_ok-dropped.ensures.reads)

pub returns-clause-answer : goal.returns-clause-answer
returns-clause-answer g c =
    prepared-answer _ _ _ _ _ _ _ c.in_ok-read.read c.in_ok-read.ensures c.insert-holidays.result.now
    c.insert-holidays.ensures.value c.args.source.now c.write_prepared.new.source _ _ _ _ c.in_ok-dropped.dropped
    c.in_ok-dropped.ensures.prepared (Some c.insert-holidays.result.now) c.write_prepared.new.kept refl refl c.in_ok-dropped.ensures.reads
    c.in_ok-flush.ensures.writes

pub returns-clause-reads : goal.returns-clause-reads
returns-clause-reads g c =
    prepared-read _ _ _ _ _ _ c.in_ok-read.read c.in_ok-read.ensures c.insert-holidays.result.now c.insert-holidays.ensures.value
    c.write_prepared.new.kept (Ok c.in_ok-dropped.dropped) c.in_ok-dropped.ensures.reads
