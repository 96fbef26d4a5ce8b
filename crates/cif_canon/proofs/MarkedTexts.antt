-- Lines behind a mark.
use Rattle.cif_canon.proofs.Names.{BodyLines, List, Permanent, Side, [], ap, append-nil, append_assoc, flat_map, mark, marked_schedule}
use Rattle.cif_canon.proofs.Names.{marked_text, refl, schedule_lines, schedule_plain, sym, ℕ, ◌++◌, ◌∙◌, ◌∷◌, ◌≡◌}

-- the text of one line
pub marked-line : (side : Side) (line : List ℕ) → mark side ++ (line ++ (10 ∷ [])) ≡ marked_text side (line ∷ [])
marked-line side line = sym (append-nil ((mark side ++ line) ++ (10 ∷ [])) ∙ append_assoc (mark side) line (10 ∷ []))

-- lines are written one by one
pub marked-lines : (side : Side) (lines : List (List ℕ)) →
    marked_text side lines ≡ flat_map (λ (line : List ℕ). marked_text side (line ∷ [])) lines
marked-lines side [] = refl
marked-lines side (line ∷ lines) =
    ap (λ (l : List ℕ). ((mark side ++ line) ++ (10 ∷ [])) ++ l) (marked-lines side lines)
    ∙ ap (λ (l : List ℕ). l ++ flat_map (λ (line : List ℕ). marked_text side (line ∷ [])) lines)
    (sym (append-nil ((mark side ++ line) ++ (10 ∷ []))))

-- a first line and others
pub marked-first : (side : Side) (line : List ℕ) (lines : List (List ℕ)) →
    marked_text side (line ∷ []) ++ marked_text side lines ≡ marked_text side (line ∷ lines)
marked-first side line lines = ap (λ (l : List ℕ). l ++ marked_text side lines) (append-nil ((mark side ++ line) ++ (10 ∷ [])))

-- the text of a schedule is that of its first line and of the others
pub marked-all : (side : Side) (e : List ℕ × Permanent BodyLines) (basic : List ℕ) (further : List (List ℕ)) →
    basic ≡ (schedule_plain e).basic → further ≡ (schedule_plain e).further →
    marked_text side (basic ∷ []) ++ marked_text side further ≡ marked_schedule (record { side = side; it = e })
unfolding schedule_lines
marked-all side e basic further first rest = marked-first side basic further ∙ (λ i. marked_text side (first i ∷ rest i))
