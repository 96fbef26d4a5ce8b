-- The text of a clear extract has as its canonical form the text of a canonical one that says the same.
use Rattle.std.proofs.Common.{refl}
use Rattle.cif_canon.proofs.NormalForms.{unasked}
use Rattle.cif_canon.specs.{Accepted.IsClearExtract, Asked.nothing_asked, Canonical.IsCanonicalExtract, Meaning.SameMeaning}
use Rattle.cif_canon.specs.{NormalForm.IsNormalFormOf}
use Rattle.cif_extract.proofs.PlainTexts.{text-spells}
use Rattle.cif_extract.specs.{ExtractParts.ExtractParts, Texts.FitsColumns, Texts.extract_text}
use Rattle.cif_weeks.specs.declared.form.Form.{Form}

module _ (form : Form) (x made : ExtractParts) (fits : FitsColumns x) (clear : IsClearExtract x) (made_fits : FitsColumns made)
    (canonical : IsCanonicalExtract form made) (same : SameMeaning x made) where
  pub text-normal : IsNormalFormOf form nothing_asked (extract_text x) (extract_text made)
  text-normal = record {
    meant = x;
    accepted = record { whole = x; spelled = text-spells x fits; narrowed = unasked x; clear = clear };
    canonical = record {
      made = made;
      canonical = record { spelled = text-spells made made_fits; text = refl; canonical = canonical };
      same = same;
    };
  }
