-- What is narrowed has a canonical form, or it has none.
use Rattle.cif_canon.proofs.Names.{HasCanon, at-fault, extract_parts, inl, subst, sym}
use Rattle.cif_canon.proofs.Normalising.{canon-narrowed}
use Rattle.cif_canon.proofs.normal_form.narrowed_canon.Goals as goal

pub returns-in_err-narrow : goal.returns-in_err-narrow
returns-in_err-narrow c =
    let f = c.in_err-narrow.field-0.0 in
    subst (HasCanon c.args.form c.args.asked.now (extract_parts c.args.extract))
    (sym (at-fault c.from_residual.result f c.from_residual.ensures.1)) (inl c.in_err-narrow.ensures.fault)

pub returns : goal.returns
returns c =
    canon-narrowed c.args.form c.args.asked.now (extract_parts c.args.extract) (extract_parts c.narrow.new.extract)
    c.in_ok-narrow.ensures.ok c.canon.result
    (rw c.insert-extract.ensures.value at c.canon.ensures.ok) (rw c.insert-extract.ensures.value at c.canon.ensures.fault)
