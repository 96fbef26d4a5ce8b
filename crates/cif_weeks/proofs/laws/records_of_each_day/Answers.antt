-- What the list says of a day names its record; `single` says there is no other, `within-tight` that none applies elsewhere.
use Rattle.cif_weeks.proofs.{AlignedDays.tight, AlignedDays.within-tight, Names.refl}
use Rattle.cif_weeks.proofs.laws.records_of_each_day.Goals as goal

pub returns-clause-one : goal.returns-clause-one
returns-clause-one g c form window body_on records n b m within runs =
    let h = (m.say.says n b within).0 runs in
    (h.it, h.listed, h.applies, h.body, λ s in_s on. m.have_form.single n s h.it in_s h.listed on h.applies)

pub returns-clause-no_other : goal.returns-clause-no_other
returns-clause-no_other g c form window body_on records n r m in_r on =
    let within = within-tight r window (tight r window form (m.have_form.aligned r in_r)) n on in
    (within, (m.say.says n r.body within).1 (record { it = r; listed = in_r; applies = on; body = refl }))
