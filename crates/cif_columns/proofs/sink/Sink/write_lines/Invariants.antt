-- What was written, and the text of the lines that are left, are all.
use Rattle.cif_columns.proofs.Names.{HasWritten, List, length, lines_text, ℕ, ◌++◌, ◌≡◌}
use Rattle.cif_columns.proofs.sink.Sink.write_lines.Given as goal

abbrev pub invariant-loop-rest : goal.invariant-loop-rest
invariant-loop-rest g l =
    (front : List ℕ) × (lines_text l.lines ≡ front ++ lines_text l.rest)
    × HasWritten g.W.Write.contents g.W.WriteDevice.write_errors front l.initial.self l.self

abbrev pub decreases-loop-rest : goal.decreases-loop-rest
decreases-loop-rest g l = length l.rest
