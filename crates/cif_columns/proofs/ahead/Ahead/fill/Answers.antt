-- Moving and reading change the buffer: by `held_grown` what is held is what was held, and then the piece that was read.
use Rattle.cif_columns.proofs.{HeldBytes.held_grown, HeldBytes.read_keeps, Names.arith, Names.◌-◌}
use Rattle.cif_columns.proofs.ahead.Ahead.fill.Goals as goal

pub returns-in-Ok-clause-bytes : goal.returns-in-Ok-clause-bytes
returns-in-Ok-clause-bytes g c =
    let this = c.args.self.now in
    let copied = c.copy_within.ensures in
    read_keeps _ _ _ _ _ (held_grown this.buf c.copy_within.new.self c.read.new.buf this.start this.end
    (16384 - (this.end - this.start)) copied.after copied.len this.ordered (omega arith) c.in-Ok.n c.in-Ok.ensures.bound.0)
    c.in-Ok.ensures.bytes.0
