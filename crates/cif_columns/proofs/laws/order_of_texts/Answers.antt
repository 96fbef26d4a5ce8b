-- The law `order_of_columns` at the width of the type, read from right to left.
use Rattle.cif_columns.proofs.Names.{sym}
use Rattle.cif_columns.proofs.TextOrder as order
use Rattle.cif_columns.proofs.laws.order_of_texts.Goals as goal

pub returns-clause-order : goal.returns-clause-order
returns-clause-order g c a b s t la lb = sym (order.order_of_columns g.row.N a b s t la lb)
