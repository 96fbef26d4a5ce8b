-- Lines that are written one after another.
use Rattle.cif_columns.proofs.Names.{HasFailed, HasWritten, List, Option, Sink, [], ap, append_assoc, drop, get_or, length, lines_text}
use Rattle.cif_columns.proofs.Names.{subst, sym, ℕ, ◌++◌, ◌<◌, ◌∙◌, ◌∷◌, ◌≡◌}
use Rattle.cif_columns.proofs.{TextsOfLines.first_text, WrittenTexts.failed_first, WrittenTexts.failed_second}

-- behind a text that is written comes the next line of those that are left
module _ {W : Type 0} (contents : W → Option (List ℕ)) (errors : W → Option ℕ) (all front : List ℕ) (rest behind : List (List ℕ))
    (line : List ℕ) (some : 0 < length rest) (first : line ≡ get_or rest 0 []) (is : behind ≡ drop 1 rest)
    (split : all ≡ front ++ lines_text rest) (s t u : Sink W) (written : HasWritten contents errors front s t) where
  pub line_split : all ≡ (front ++ (line ++ (10 ∷ []))) ++ lines_text behind
  line_split =
      split ∙ ap (λ l. front ++ l) (first_text rest behind some is ∙ ap (λ l. (l ++ (10 ∷ [])) ++ lines_text behind) (sym first))
      ∙ sym (append_assoc front (line ++ (10 ∷ [])) (lines_text behind))

  pub line_failed : HasFailed contents errors (line ++ (10 ∷ [])) t u → HasFailed contents errors all s u
  line_failed h =
      subst (λ text. HasFailed contents errors text s u) (sym line_split)
      (failed_first contents errors (front ++ (line ++ (10 ∷ []))) (lines_text behind) s u
      (failed_second contents errors front (line ++ (10 ∷ [])) s t u written h))
