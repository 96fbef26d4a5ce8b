-- One association more (`one_more`), and one schedule. The header and the locations fit by their own facts, and so the whole does
-- (`extract_fits`).
use Rattle.cif_extract.proofs.Names.{All, AllFit, Association, ScheduleFits, association_table, extract_parts, subst, take_all, ◌∙◌}
use Rattle.cif_extract.proofs.BodyFits.{extract_fits, one_more}
use Rattle.cif_extract.proofs.extract.Extract.fits.Goals as goal

abbrev AssociationFits : Association → Type 0
AssociationFits a = AllFit (association_table a)

pub loop-association-preserved : goal.loop-association-preserved
loop-association-preserved c =
    one_more AssociationFits c.as_slice-associations.result.now c.loop-association.association-index c.association-item.result
    c.loop-association-test.true c.association-item.is c.loop-association.invariant c.fits.ensures

pub loop-schedule-preserved : goal.loop-schedule-preserved
loop-schedule-preserved c =
    one_more ScheduleFits c.as_slice-schedules.result.now c.loop-schedule.schedule-index c.schedule-item.result
    c.loop-schedule-test.true c.schedule-item.is c.loop-schedule.invariant c.fits-in-loop-schedule.ensures

pub returns : goal.returns
returns c =
    extract_fits (extract_parts c.args.self.now)
    (subst (All AssociationFits)
    (take_all c.loop-association.association-index _ c.loop-association-test.false ∙ c.as_slice-associations.ensures.value)
    c.loop-association.invariant)
    (subst (All ScheduleFits)
    (take_all c.loop-schedule.schedule-index _ c.loop-schedule-test.false ∙ c.as_slice-schedules.ensures.value)
    c.loop-schedule.invariant)
