-- A range that begins 81 bytes later is the held bytes without their first 81 (`range_rest`).
use Rattle.cif_columns.proofs.{HeldBytes.range_length, HeldBytes.range_rest, Names.arith, Names.◌+◌, Names.◌≤◌}
use Rattle.cif_columns.proofs.ahead.Ahead.pass_line_with_feed.Goals as goal

pub returns : goal.returns
returns c =
    let this = c.args.self.now in
    let within : this.start + 81 ≤ this.end = omega (arith, c.requires, range_length this.buf this.start this.end) in
    range_rest this.buf this.start this.end 81 within
