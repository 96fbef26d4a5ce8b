-- Five parts are appended one behind another (`canon-appended`).
use Rattle.cif_canon.proofs.{AppendedTexts.answered, AppendedTexts.appended, AppendedTexts.text-is, Names.CanonParts, Names.ap}
use Rattle.cif_canon.proofs.{Names.extract_parts, Names.refl, WrittenCanon.canon-appended}
use Rattle.cif_canon.proofs.canonical_form.Canon.write.Goals as goal

pub returns-clause-writes : goal.returns-clause-writes
returns-clause-writes g c =
    let e = c.self.inside in
    answered _ _ _ _ _ c.answer.result c.answer.ensures.ok c.answer.ensures.failed
    (text-is _ _ _ _ _ _ (ap (λ (v : CanonParts). v.text) c.self.view_is)
    (canon-appended _ _ (extract_parts e.extract.now) e.tiplocs.items e.associations.items e.schedules.items _ _ _ _ _ _
    (appended _ _ _ _ _ c.write_head.result c.write_head.ensures)
    (rw c.as_slice.ensures.value at c.write_each.ensures)
    (rw (c.as_slice-2.ensures.value, c.as_slice-3.ensures.value) at c.write_runs.ensures)
    (rw (c.as_slice-4.ensures.value, c.as_slice-5.ensures.value) at c.write_schedules.ensures)
    (appended _ _ _ _ _ c.write_trailer.result c.write_trailer.ensures)))

pub write_runs-requires : goal.write_runs-requires
write_runs-requires g c κs = ((refl, tt), rw (c.as_slice-2.ensures.value, c.as_slice-3.ensures.value) c.self.invariant.0)

pub write_schedules-requires : goal.write_schedules-requires
write_schedules-requires g c = rw (c.as_slice-4.ensures.value, c.as_slice-5.ensures.value) c.self.invariant.1
