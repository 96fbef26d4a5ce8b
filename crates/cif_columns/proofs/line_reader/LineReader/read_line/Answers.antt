-- A line that is ahead is the next one (`next_passed`).
use Rattle.cif_columns.proofs.{Names.Of, Names.refl, PassedLines.next_passed}
use Rattle.cif_columns.proofs.line_reader.LineReader.read_line.Goals as goal

pub returns-then-read_ahead : goal.returns-then-read_ahead
returns-then-read_ahead g c =
    let read = c.if-read_ahead.ensures.read refl in
    next_passed g.R.Read.remaining g.R.ReadDevice.read_errors (Of 82) c.args.self.now c.read_ahead.new.self c.args.source.now _ read.ahead
    read.printable read.passed
