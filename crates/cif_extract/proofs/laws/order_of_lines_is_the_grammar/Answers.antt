-- Laws of all extracts, by induction over records: the grammar and the table of what may follow agree place by place.
use Rattle.cif_extract.proofs.{OrderLaws.spelled_fine, OrderOfLines.in_order-begins, OrderOfLines.spelled-in_order}
use Rattle.cif_extract.proofs.laws.order_of_lines_is_the_grammar.Goals as goal

pub returns-clause-in_order : goal.returns-clause-in_order
returns-clause-in_order c = spelled-in_order

pub returns-clause-fine : goal.returns-clause-fine
returns-clause-fine c = spelled_fine

pub returns-clause-begins : goal.returns-clause-begins
returns-clause-begins c = in_order-begins
