-- What is written is the text of the lines so far, and with those to come they are all.
use Rattle.cif_canon.proofs.Names.{IsAppended, List, [], flat_map, length, marked_text, ℕ, ◌++◌, ◌∷◌, ◌≡◌}
use Rattle.cif_canon.proofs.difference_lines.write_marked_lines.Given as goal

abbrev pub invariant-loop-rest : goal.invariant-loop-rest
invariant-loop-rest g l =
    (done : List (List ℕ)) × (l.lines ≡ done ++ l.rest)
    × IsAppended g.W.Write.contents g.W.WriteDevice.write_errors
    (flat_map (λ (line : List ℕ). marked_text l.side (line ∷ [])) done) l.initial.sink l.sink

abbrev pub decreases-loop-rest : goal.decreases-loop-rest
decreases-loop-rest g l = length l.rest
