-- Of known bytes the published extract that was read is the one whose winners are written.
use Rattle.cif_feed.proofs.Names.{Err, Ok, goes-on, hands-on}
use Rattle.cif_feed.proofs.{WrittenPrepared.reads-named, WrittenWinners.read_winners, WrittenWinners.reads-winning, WrittenWinners.shows}
use Rattle.cif_feed.proofs.winners_answer.write_winners.Goals as goal

pub returns-clause-winners : goal.returns-clause-winners
returns-clause-winners g c =
    let h = c.args.preparation.holidays.now in
    let call = c.append_winners-answer in
    let read = reads-named h c.args.max_lines g.R.Read.remaining g.R.ReadDevice.read_errors c.args.source.now c.read.new.source
    c.codes-codes.result (Ok c.in_ok-extract.extract) c.codes-codes.ensures c.in_ok-extract.ensures in
    read_winners h c.args.preparation.drops_clashes c.args.format c.args.max_lines g.W.Write.contents g.W.WriteDevice.write_errors
    c.args.sink.now call.new.sink _ c.in_ok-extract.extract read.ok call.result call.ensures

pub returns-clause-reads : goal.returns-clause-reads
returns-clause-reads g c =
    let h = c.args.preparation.holidays.now in
    let call = c.append_winners-answer in
    let read = reads-named h c.args.max_lines g.R.Read.remaining g.R.ReadDevice.read_errors c.args.source.now c.read.new.source
    c.codes-codes.result (Ok c.in_ok-extract.extract) c.codes-codes.ensures c.in_ok-extract.ensures in
    goes-on _ _ _ _ _ _ c.in_ok-extract.extract read call.result
    (shows h c.args.preparation.drops_clashes c.args.format c.args.max_lines g.W.Write.contents g.W.WriteDevice.write_errors
    c.args.sink.now call.new.sink c.in_ok-extract.extract call.result call.ensures)

pub returns-in_err-extract-clause-reads : goal.returns-in_err-extract-clause-reads
returns-in_err-extract-clause-reads g c =
    let h = c.args.preparation.holidays.now in
    let read = reads-named h c.args.max_lines g.R.Read.remaining g.R.ReadDevice.read_errors c.args.source.now c.read.new.source
    c.codes-codes.result (Err c.in_err-extract.field-0.0) c.codes-codes.ensures c.in_err-extract.ensures in
    let fault = c.in_err-extract.field-0.0 in
    hands-on _ _ _ _ _ _ fault (reads-winning h c.args.preparation.drops_clashes c.args.max_lines c.args.kept.now fault) read _
    c.from_residual.ensures.1
