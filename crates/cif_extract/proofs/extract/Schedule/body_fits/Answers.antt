-- The detail of a body fits (`detail-fits`).
use Rattle.cif_extract.proofs.Names.{AllFit, detail_of, detail_rows, option_copied, option_map, subst, sym}
use Rattle.cif_extract.proofs.PlainTexts.{detail-fits}
use Rattle.cif_extract.proofs.extract.Schedule.body_fits.Goals as goal

pub returns-in-Some-clause-detail : goal.returns-in-Some-clause-detail
returns-in-Some-clause-detail c =
    subst (λ o. AllFit (detail_rows (option_map detail_of (option_copied o)))) (sym c.in-Some.is)
    (detail-fits c.in-Some.body.now c.fits.ensures)
