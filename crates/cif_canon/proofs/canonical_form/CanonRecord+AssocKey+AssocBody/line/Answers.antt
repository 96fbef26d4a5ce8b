-- The line is that of the key and of the record.
use Rattle.cif_canon.proofs.Names.{ap, association_plain, ◌∙◌}
use Rattle.cif_canon.proofs.canonical_form.CanonRecord+AssocKey+AssocBody.line.Goals as goal

pub returns : goal.returns
returns c = c.permanent_line.ensures.plain ∙ ap association_plain c.self.view_is
