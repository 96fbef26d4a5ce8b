-- Distinct locations and the runs of both kinds make a canonical form (`CanonForm`).
use Rattle.cif_canon.proofs.Names.{AreDistinct, extract_parts, subst}
use Rattle.cif_canon.proofs.CanonForm.{associations-have, is-canon, schedules-have}
use Rattle.cif_canon.proofs.normal_form.canon.Goals as goal

pub invariant_of-result : goal.invariant_of-result
invariant_of-result c =
    let x = extract_parts c.args.extract.now in
    let distinct = subst (λ ts. AreDistinct ts c.in_ok-tiplocs.tiplocs.items) c.as_slice.ensures.value c.in_ok-tiplocs.ensures in
    let runs = c.in_ok-runs.runs in
    let is = c.in_ok-runs.ensures in (
      associations-have c.args.form x c.in_ok-tiplocs.tiplocs.items distinct runs.associations.items is.associations
          runs.schedules.items is.schedules,
      schedules-have c.args.form x c.in_ok-tiplocs.tiplocs.items distinct runs.associations.items is.associations
          runs.schedules.items is.schedules,
    )

pub returns-clause-ok : goal.returns-clause-ok
returns-clause-ok c =
    let distinct = subst (λ ts. AreDistinct ts c.in_ok-tiplocs.tiplocs.items) c.as_slice.ensures.value c.in_ok-tiplocs.ensures in
    is-canon c.args.form (extract_parts c.args.extract.now) c.in_ok-tiplocs.tiplocs.items distinct c.in_ok-runs.runs.associations.items
    c.in_ok-runs.ensures.associations c.in_ok-runs.runs.schedules.items c.in_ok-runs.ensures.schedules c.fits.ensures
