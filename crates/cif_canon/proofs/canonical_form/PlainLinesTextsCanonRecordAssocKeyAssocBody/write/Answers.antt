-- The line is that of the key and of the record.
use Rattle.cif_canon.proofs.Names.{List, [], ap, ℕ, ◌++◌, ◌∷◌}
use Rattle.cif_canon.proofs.AppendedTexts.{appended, text-is}
use Rattle.cif_canon.proofs.canonical_form.PlainLinesTextsCanonRecordAssocKeyAssocBody.write.Goals as goal

pub returns : goal.returns
returns g c =
    text-is _ _ _ _ _ _ (ap (λ (l : List ℕ). l ++ (10 ∷ [])) c.line.ensures)
    (appended _ _ _ _ _ c.write_line.result c.write_line.ensures)
