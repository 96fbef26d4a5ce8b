-- The columns go after the bytes (`columns-appended`).
use Rattle.cif_rows.proofs.Names.{arith}
use Rattle.cif_rows.proofs.Buffers.{columns-appended}
use Rattle.cif_rows.proofs.rows.put.Goals as goal

pub returns-clause-text : goal.returns-clause-text
returns-clause-text c =
    let room = c.requires.room in
    let known = c.told-bytes in
    columns-appended c.args.bytes.now c.args.columns.now c.copy_from_slice.new.self c.args.at c.args.count _ (omega (arith, room, known))
    c.copy_from_slice.ensures.after c.requires.count
