-- The columns as they are kept are the plain line, so `plain_stop` has all of it.
use Rattle.std.proofs.lemmas.Result.{on_ok_weaker}
use Rattle.cif_extract.proofs.{Names.progress_of, TakenLines.plain_stop}
use Rattle.cif_extract.proofs.reading.Reading.take_plain_stop.Goals as goal

pub returns : goal.returns
returns c =
    on_ok_weaker c.keep_columns.result
    (plain_stop (progress_of c.args.self.now) (progress_of c.keep_columns.new.self) c.args.columns.now c.requires) c.keep_columns.ensures
