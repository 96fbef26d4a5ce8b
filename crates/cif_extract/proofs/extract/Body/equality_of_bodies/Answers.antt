-- Lists of lists of numbers are equal where their elements are, and bodies where their parts are (`equal_parts`).
use Rattle.cif_extract.proofs.{Bodies.equal_parts, Bodies.parts_in-keeps, Names.bytes_decides, Names.pointwise_decides}
use Rattle.cif_extract.proofs.extract.Body.equality_of_bodies.Goals as goal

pub returns-clause-lines : goal.returns-clause-lines
returns-clause-lines c = pointwise_decides bytes_decides

pub returns-clause-parts : goal.returns-clause-parts
returns-clause-parts c a b one other = equal_parts a b one.keep other.keep

pub returns-clause-kept : goal.returns-clause-kept
returns-clause-kept c = parts_in-keeps
