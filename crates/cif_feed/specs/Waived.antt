-- Which lines of an update that may not be done are waived.
use Rattle.std.specs.Prelude.{Bool, List, Option, false, not, true}
use Rattle.std.specs.List.{find}
use Rattle.cif_feed.specs.declared.{changes.RefusedLine.RefusedLine, changes.Unfit.Unfit, changes.Waived.Waived}
use Rattle.cif_feed.specs.declared.changes.Unfit.TheVariants.{AlreadyThere, NotThere, OutOfSequence}
use Rattle.cif_feed.specs.declared.changes.Waived.TheVariants.{Everything, Keys, Nothing}

-- whether a line is waived that may not be done for this reason: of an update that has to follow its extract not its header
abbrev pub waives : Waived → Unfit → Bool
waives Nothing why = false
waives Keys OutOfSequence = false
waives Keys NotThere = true
waives Keys AlreadyThere = true
waives Everything why = true

-- the first of the lines that isn't waived
abbrev pub first_refused : Waived → List RefusedLine → Option RefusedLine
first_refused how lines = find (λ (line : RefusedLine). not (waives how line.why)) lines
