-- The declared equality of lists decides whether they are one, and so does the comparison of the lines.
use Rattle.cif_extract.proofs.Names.{bytes_decides, pointwise_decides, sym, ◌∙◌}
use Rattle.std.proofs.lemmas.Bool.Decides.{same_from_decides}
use Rattle.cif_extract.proofs.extract.BodyPartialEq.eq.Goals as goal

pub returns : goal.returns
returns c =
    let self_is = c.as_slice.ensures ∙ c.self.view_is in
    let other_is = c.as_slice-2.ensures ∙ c.other.view_is in
    same_from_decides _ _ (
      λ same. sym self_is ∙ c.is.ensures.0 same ∙ other_is,
      λ same. c.is.ensures.1 (self_is ∙ same ∙ sym other_is),
    ) (pointwise_decides bytes_decides c.args.self.now c.args.other.now)
