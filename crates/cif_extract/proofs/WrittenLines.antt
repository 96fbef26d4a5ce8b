-- What is written, line by line.
use Rattle.cif_extract.proofs.Names.{HasFailed, HasWritten, KeepAll, List, Option, Result, Row, Writes, [], ap, append_assoc, failed_first}
use Rattle.cif_extract.proofs.Names.{lines_text, map, plain_line, refl, subst, sym, writes_on, ℕ, ◌++◌, ◌∙◌, ◌∷◌, ◌≡◌}
use Rattle.cif_columns.specs.declared.sink.Sink.{Sink}

-- lines that are kept are the plain lines of their tables
pub kept_plain : (lines : List (List ℕ)) (tables : List (List Row)) → KeepAll lines tables → lines ≡ map plain_line tables
kept_plain [] [] kept = refl
kept_plain [] (t ∷ tables) kept = absurd kept
kept_plain (line ∷ lines) [] kept = absurd kept
kept_plain (line ∷ lines) (t ∷ tables) kept = ap (λ l. l ∷ lines) kept.1 ∙ ap (λ ls. plain_line t ∷ ls) (kept_plain lines tables kept.2)

-- the text of a line and of others that follow it is that of the line and some of the others, and of the rest
module _ (line texts : List ℕ) (lines rest : List (List ℕ)) (others : texts ++ lines_text rest ≡ lines_text lines) where
  in_two_parts : lines_text (line ∷ lines) ≡ ((line ++ (10 ∷ [])) ++ texts) ++ lines_text rest
  in_two_parts = ap (λ l. (line ++ (10 ∷ [])) ++ l) (sym others) ∙ sym (append_assoc (line ++ (10 ∷ [])) texts (lines_text rest))

  -- their writing in these two parts stops in the first
  module _ {W : Type 0} (contents : W → Option (List ℕ)) (errors : W → Option ℕ) (s t : Sink W) where
    pub first_failed : HasFailed contents errors ((line ++ (10 ∷ [])) ++ texts) s t
        → HasFailed contents errors (lines_text (line ∷ lines)) s t
    first_failed h =
        subst (λ text. HasFailed contents errors text s t) (sym in_two_parts)
        (failed_first contents errors ((line ++ (10 ∷ [])) ++ texts) (lines_text rest) s t h)

    -- or goes on with the second
    pub second_writes : {A E : Type 0} (u : Sink W) (result : Result A E) → HasWritten contents errors ((line ++ (10 ∷ [])) ++ texts) s t
        → Writes contents errors (lines_text rest) t u result
        → Writes contents errors (lines_text (line ∷ lines)) s u result
    second_writes u result written h =
        subst (λ text. Writes contents errors text s u result) (sym in_two_parts)
        (writes_on contents errors ((line ++ (10 ∷ [])) ++ texts) (lines_text rest) s t u result written h)
