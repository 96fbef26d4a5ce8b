-- A range that begins later is the held bytes without their first (`range_rest`).
use Rattle.cif_columns.proofs.{HeldBytes.range_length, HeldBytes.range_rest, Names.arith, Names.◌+◌, Names.◌≤◌}
use Rattle.cif_columns.proofs.ahead.Ahead.pass.Goals as goal

pub returns-clause-held : goal.returns-clause-held
returns-clause-held c =
    let this = c.args.self.now in
    let within : this.start + c.args.whole ≤ this.end =
    omega (arith, c.requires.whole, range_length this.buf this.start this.end, this.ordered) in
    range_rest this.buf this.start this.end c.args.whole within
