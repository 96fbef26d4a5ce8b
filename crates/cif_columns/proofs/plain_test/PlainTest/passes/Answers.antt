-- The test goes column by column and a table row by row: `plain_by_test` gets from one to the other, by induction over rows.
use Rattle.cif_columns.proofs.{Names.rules, TestedRows.plain_by_test}
use Rattle.cif_columns.proofs.plain_test.PlainTest.passes.Goals as goal

pub returns-clause-plain : goal.returns-clause-plain
returns-clause-plain c = λ yes rows h same. plain_by_test c.args.self.now c.args.line.now c.bytes.ensures.line (search rules) rows h same
