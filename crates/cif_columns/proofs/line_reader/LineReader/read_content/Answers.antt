-- A line that is ahead is the next one (`next_passed`), and a comment or none (`content_next`).
use Rattle.cif_columns.proofs.{LineAnswers.content_next, Names.InFeed, Names.refl, Names.◌∙◌, PassedLines.next_passed}
use Rattle.cif_columns.proofs.line_reader.LineReader.read_content.Goals as goal

pub returns-then-read_ahead : goal.returns-then-read_ahead
returns-then-read_ahead g c =
    let this = c.args.self.now in
    let read = c.if-read_ahead.ensures.read refl in
    rw c.of_line.ensures
    (content_next this c.read_ahead.new.self c.read_ahead.new.line read.ahead.reading (read.passed.past_now ∙ read.ahead.reading)
    (next_passed g.R.Read.remaining g.R.ReadDevice.read_errors InFeed this c.read_ahead.new.self c.args.source.now _ read.ahead
    read.printable read.passed))
