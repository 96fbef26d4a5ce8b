-- The derived equality compares bytes (`bytes_decides`), and the columns alone determine a location (`same_tiploc`).
use Rattle.cif_records.proofs.{Names.Tiploc, Names.ap, Names.bytes_decides, Tiplocs.same_tiploc}
use Rattle.cif_records.proofs.tiploc.Tiploc.order_of_tiplocs.Goals as goal

pub returns-clause-equality : goal.returns-clause-equality
returns-clause-equality c s t =
    let known = bytes_decides s.columns t.columns in
    (λ eq. same_tiploc s t (known.0 eq), λ same. known.1 (ap (λ (u : Tiploc). u.columns) same))
