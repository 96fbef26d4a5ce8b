-- Eighty spaces are the plain columns of a spare value, which may stand in a line (`printable-plain_columns`).
use Rattle.cif_columns.proofs.{Names.spare, PlainLines.printable-plain_columns}
use Rattle.cif_columns.proofs.line.Line.blank.Goals as goal

pub invariant_of-result : goal.invariant_of-result
invariant_of-result c = printable-plain_columns 80 spare tt
