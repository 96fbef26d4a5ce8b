-- An update that isn't done is reported by `undone-answer` and its like; a text that is written, or isn't, by `ended-answer`.
use Rattle.cif_feed.{proofs.Names.[], proofs.Names.published_parts, proofs.Names.refl, specs.FeedAnswer.reported_of}
use Rattle.cif_extract.proofs.ReadCalls.{at-fault}
use Rattle.cif_feed.proofs.UpdatesRead.{ended-answer, ended-fault, ended-reads, finished, undone-answer, undone-fault, undone-reads}
use Rattle.cif_feed.proofs.updates_in_turn.answer_update.Goals as goal

pub returns-in_err-do_updates-clause-answer : goal.returns-in_err-do_updates-clause-answer
returns-in_err-do_updates-clause-answer g c =
    let call = c.from_residual-in_err-do_updates in
    let f = c.in_err-do_updates.field-0.0 in
    undone-answer _ _ _ _ _ (λ u. []) _ _ c.all.ensures _ _ c.in_ok-extract.extract c.in_ok-extract.ensures c.insert-extract.result.now
    c.insert-extract.ensures.value
    (published_parts c.do_updates.new.extract) _ _ c.in_err-do_updates.ensures.0 f c.in_err-do_updates.ensures.1 call.result
    (at-fault call.result f call.ensures.1) c.args.sink.now

pub returns-in_err-do_updates-clause-fault : goal.returns-in_err-do_updates-clause-fault
returns-in_err-do_updates-clause-fault g c =
    let call = c.from_residual-in_err-do_updates in
    let f = c.in_err-do_updates.field-0.0 in
    undone-fault _ _ g.W.Write.contents g.W.WriteDevice.write_errors (λ u. reported_of c.args.kept.now) (λ u. []) _ _ c.all.ensures _ _
    c.in_ok-extract.extract c.in_ok-extract.ensures c.insert-extract.result.now c.insert-extract.ensures.value
    (published_parts c.do_updates.new.extract) _ _ c.in_err-do_updates.ensures.0 f c.in_err-do_updates.ensures.1 call.result
    (at-fault call.result f call.ensures.1)

pub returns-in_err-do_updates-clause-reads : goal.returns-in_err-do_updates-clause-reads
returns-in_err-do_updates-clause-reads g c =
    let call = c.from_residual-in_err-do_updates in
    let f = c.in_err-do_updates.field-0.0 in
    undone-reads _ _ g.W.Write.contents g.W.WriteDevice.write_errors (λ u. reported_of c.args.kept.now) _ _ _ c.all.ensures _ _
    c.in_ok-extract.extract
    c.in_ok-extract.ensures c.insert-extract.result.now c.insert-extract.ensures.value
    (published_parts c.do_updates.new.extract) _ _ c.in_err-do_updates.ensures.0 f c.in_err-do_updates.ensures.1 call.result
    (at-fault call.result f call.ensures.1)

pub returns-clause-answer : goal.returns-clause-answer
returns-clause-answer g c =
    let turn = c.in_ok-do_updates.ensures in
    let done = rw c.new.ensures.items at turn.2 in
    ended-answer _ _ _ _ _ (λ u. []) _ _ c.all.ensures _ _ c.in_ok-extract.extract c.in_ok-extract.ensures c.insert-extract.result.now
    c.insert-extract.ensures.value
    (published_parts c.do_updates.new.extract) _ _ turn.0 turn.1 (λ a. rw (c.of.ensures.counts, done) refl) c.args.sink.now
    c.finish.new.sink
    c.finish.result
    (finished _ _ _ _ _ _ c.write.result c.finish.result c.write.ensures c.finish.ensures.finishes)

pub returns-clause-reads : goal.returns-clause-reads
returns-clause-reads g c =
    let turn = c.in_ok-do_updates.ensures in
    ended-reads _ _ g.W.Write.contents g.W.WriteDevice.write_errors (λ u. reported_of c.args.kept.now) _ _ _ c.all.ensures _ _
    c.in_ok-extract.extract
    c.in_ok-extract.ensures c.insert-extract.result.now c.insert-extract.ensures.value
    (published_parts c.do_updates.new.extract) _ _ turn.0 turn.1 (λ a. rw c.new.ensures.items at turn.2) c.args.sink.now c.finish.new.sink
    c.finish.result
    (finished _ _ _ _ _ _ c.write.result c.finish.result c.write.ensures c.finish.ensures.finishes)

pub returns-clause-fault : goal.returns-clause-fault
returns-clause-fault g c =
    let turn = c.in_ok-do_updates.ensures in
    ended-fault _ _ g.W.Write.contents g.W.WriteDevice.write_errors (λ u. reported_of c.args.kept.now) (λ u. []) _ _ c.all.ensures _ _
    c.in_ok-extract.extract c.in_ok-extract.ensures c.insert-extract.result.now c.insert-extract.ensures.value
    (published_parts c.do_updates.new.extract) _ _ turn.0 turn.1 c.args.sink.now c.finish.new.sink c.finish.result
    (finished _ _ _ _ _ _ c.write.result c.finish.result c.write.ensures c.finish.ensures.finishes)
