-- The texts of lines, each a line with its line feed.
use Rattle.cif_columns.proofs.Names.{List, [], ap, drop, drop_more, get_or, length, lines_text, sym, take, take-append_seam, ℕ, ◌++◌, ◌+◌}
use Rattle.cif_columns.proofs.Names.{◌<◌, ◌∙◌, ◌∷◌, ◌≡◌}

-- the line of a text, in front of its line feed
pub front_of_text : (line : List ℕ) → length line ≡ 80 → take 80 (line ++ (10 ∷ [])) ≡ line
front_of_text line width = ap (λ n. take n (line ++ (10 ∷ []))) (sym width) ∙ take-append_seam line (10 ∷ [])

-- the text of lines is that of the first, and of those behind it
pub first_text : (lines rest : List (List ℕ)) → 0 < length lines → rest ≡ drop 1 lines
    → lines_text lines ≡ (get_or lines 0 [] ++ (10 ∷ [])) ++ lines_text rest
first_text lines rest some is =
    ap lines_text (drop_more lines 0 [] some) ∙ ap (λ l. (get_or lines 0 [] ++ (10 ∷ [])) ++ lines_text l) (sym is)
