-- The rows go field by field (`rows-of-fields`), and the differences are one list (`differences-once`).
use Rattle.cif_views.proofs.OneDifference.{differences-once, rows-of-fields}
use Rattle.cif_views.proofs.laws.one_table_of_differences.Goals as goal

pub returns-clause-fields : goal.returns-clause-fields
returns-clause-fields c = rows-of-fields

pub returns-clause-once : goal.returns-clause-once
returns-clause-once c = differences-once
