-- The test lets no other bytes through (`line_by_test`), so the columns are a line, of which `plain_by_test` speaks.
use Rattle.cif_columns.proofs.{Names.rules, TestedBytes.line_by_test, TestedRows.plain_by_test}
use Rattle.cif_columns.proofs.plain_test.PlainTest.passes_columns.Goals as goal

pub returns-clause-line : goal.returns-clause-line
returns-clause-line c = λ yes asks.
    line_by_test c.args.self.now c.args.columns.now (search rules) (search rules) (search rules) (search rules) (search rules) asks

pub returns-clause-plain : goal.returns-clause-plain
returns-clause-plain c = λ yes asks rows h same.
    plain_by_test c.args.self.now c.args.columns.now (returns-clause-line c yes asks) (search rules) rows h same
