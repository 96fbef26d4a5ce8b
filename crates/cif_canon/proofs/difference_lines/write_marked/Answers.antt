-- The mark and then the line with its line feed are the marked text (`marked-line`).
use Rattle.cif_canon.proofs.Names.{[], ap, ◌++◌, ◌∙◌, ◌∷◌}
use Rattle.cif_canon.proofs.{AppendedTexts.appended, AppendedTexts.both, AppendedTexts.text-is, MarkedTexts.marked-line}
use Rattle.cif_canon.proofs.difference_lines.write_marked.Goals as goal

pub returns : goal.returns
returns g c =
    text-is _ _ _ _ _ _ (ap (λ m. m ++ (c.args.line.now ++ (10 ∷ []))) c.prefix_of.ensures ∙ marked-line c.args.side c.args.line.now)
    (both _ _ c.prefix_of.result.now (c.args.line.now ++ (10 ∷ [])) _ _ _ c.append.ensures
    (appended _ _ _ _ _ c.write_line.result c.write_line.ensures))
