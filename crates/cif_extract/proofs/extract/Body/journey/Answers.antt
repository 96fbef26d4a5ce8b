-- The lines of a body are three at least (`first_line`).
use Rattle.cif_extract.proofs.{Bodies.first_line, Names.ap, Names.arith, Names.length, Names.length-drop}
use Rattle.cif_extract.proofs.extract.Body.journey.Goals as goal

pub rest-requires : goal.rest-requires
rest-requires c = omega (
  arith,
  (first_line c.args.self.now c.second_line.ensures.keep).0,
  ap length c.further_lines-further.ensures,
  length-drop 1 c.args.self.now,
)
