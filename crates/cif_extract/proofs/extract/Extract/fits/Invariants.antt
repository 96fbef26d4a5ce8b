-- The associations so far fit, and so do the schedules.
use Rattle.cif_extract.proofs.Names.{All, AllFit, Association, ScheduleFits, association_table, take}
use Rattle.cif_extract.proofs.extract.Extract.fits.Given as goal

abbrev pub invariant-loop-association : goal.invariant-loop-association
invariant-loop-association l = All (λ (a : Association). AllFit (association_table a)) (take l.association-index l.associations)

abbrev pub invariant-loop-schedule : goal.invariant-loop-schedule
invariant-loop-schedule l = All ScheduleFits (take l.schedule-index l.schedules)
